-- What the search answers, and what it leaves in the lists that it is handed.
use Rattle.std.specs.Prelude.{◌≡◌, ℕ, Bool, if◌then◌else◌, not, ◌&&◌, List, length, take, drop, Ok, Err, Result, nat_le, nat_lt}
use Rattle.flow.specs.Network.{Network}
use Rattle.search.specs.Served.{Served}
use Rattle.search.specs.declared.error.SearchError.{SearchError}
use Rattle.search.specs.declared.error.SearchError.TheVariants.{TooManyRanks, LoadsTooShort, MarksTooShort, FiguresTooShort, WorkTooShort}
use Rattle.search.specs.declared.serving.Work.{Work}

-- each list to work in has an entry for each node, or for each arc
abbrev pub has_room : Work → ℕ → ℕ → Bool
has_room w nodes arcs =
    nat_le arcs (length w.arcs.now) && nat_le arcs (length w.next_out.now) && nat_le arcs (length w.next_in.now)
    && nat_le nodes (length w.nodes.now) && nat_le nodes (length w.visits.now) && nat_le nodes (length w.slots.now)

-- the first thing that is wrong with what is handed in, if anything is
abbrev pub checked : ℕ → ℕ → ℕ → Bool → List ℕ → List ℕ → List ℕ → Result Unit SearchError
checked nodes arcs ranks room loads marks figures =
    if nat_lt 1024 ranks then Err TooManyRanks
    else if nat_lt (length loads) arcs then Err LoadsTooShort
    else if nat_lt (length marks) nodes then Err MarksTooShort
    else if nat_lt (length figures) ranks then Err FiguresTooShort
    else if not room then Err WorkTooShort
    else Ok tt

-- What is handed in was found to be right: the ranks are served, in as many entries of each list as are needed, and the others
-- are as they were. Or it was not, and all is as it was.
abbrev pub Leaves : Network → ℕ → List ℕ → List ℕ → List ℕ → List ℕ → List ℕ → List ℕ → Result Unit SearchError → Type 0
Leaves N ranks loads loads' marks marks' figures figures' (Ok x) =
    Served N ranks (take (length N.arcs) loads') (take N.nodes marks') (take ranks figures')
    × (drop (length N.arcs) loads' ≡ drop (length N.arcs) loads) × (drop N.nodes marks' ≡ drop N.nodes marks) × (drop ranks figures' ≡ drop ranks figures)
Leaves N ranks loads loads' marks marks' figures figures' (Err e) = (loads' ≡ loads) × (marks' ≡ marks) × (figures' ≡ figures)

-- The search answers whether what is handed in is right, and leaves the lists accordingly.
abbrev pub Answers : Network → ℕ → Bool → List ℕ → List ℕ → List ℕ → List ℕ → List ℕ → List ℕ → Result Unit SearchError → Type 0
Answers N ranks room loads loads' marks marks' figures figures' r =
    (r ≡ checked N.nodes (length N.arcs) ranks room loads marks figures) × Leaves N ranks loads loads' marks marks' figures figures' r

-- Inside: the lists to work in have just the entries that are needed.
pub record Suits (w : Work) (node_count arc_count : ℕ) : Type 0 where
  pub arcs : length w.arcs.now ≡ arc_count
  pub next_out : length w.next_out.now ≡ arc_count
  pub next_in : length w.next_in.now ≡ arc_count
  pub nodes : length w.nodes.now ≡ node_count
  pub visits : length w.visits.now ≡ node_count
  pub slots : length w.slots.now ≡ node_count
