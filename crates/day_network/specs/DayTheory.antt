-- The theorems on the day network: its flows are plans, its cuts are cuts of the board, so its greatest flows are best quotes.
use Rattle.std.specs.Prelude.{◌≡◌, ℕ, suc, ◌+◌, ◌*◌, ◌<◌, ◌≤◌, Bool, List, length, Some, None, Option, slice_index, slice_index_or, if◌then◌else◌}
use Rattle.flow.specs.declared.Arc.{Arc}
use Rattle.flow.specs.Network as net
use Rattle.flow.specs.Network.{total}
use Rattle.flow.specs.Pushing.{no_arc}
use Rattle.flow.specs.Theory.{Greatest, Smallest}
use Rattle.timetable.specs.Plans.{Timetable, Sound, Feasible, Delivers, Split, Servable}
use Rattle.timetable.specs.Quotes.{Ranking, Cut, width, all_owed, SmallestFull, Best, Right}
use Rattle.day_network.specs.DayNetwork.{departure_arc, depot_arc, owed_arc, lane_arcs, place_arcs, arc_count, node_rank, day, plan_of, split_of, extra, nodes_of, board_of}

abbrev pub DaySound : Type 0
DaySound = (S : Timetable) → Sound S → (owed : ℕ → ℕ) (R : Option Ranking) → net.Sound (day S owed R)

-- f is a flow that brings all owed, and to the ranks what the plan and the split leave for them
pub record Carries (S : Timetable) (owed : ℕ → ℕ) (R : Option Ranking) (p q : ℕ → ℕ → ℕ) (f : List ℕ) : Type 0 where
  pub flow : net.Flow (day S owed R) f
  pub serves : net.brought (day S owed R) 1 f ≡ all_owed S owed
  pub brings : (k : ℕ) → net.brought (day S owed R) (suc k) f ≡ all_owed S owed + extra S R p q k

-- A plan that delivers all owed is a flow on the day network.
abbrev pub PlanToFlow : Type 0
PlanToFlow =
    (S : Timetable) → Sound S → (owed : ℕ → ℕ) (R : Ranking) (p q : ℕ → ℕ → ℕ) → Feasible S p → Split S owed p q
    → (f : List ℕ) × Carries S owed (Some R) p q f

-- A flow that brings all owed is a plan and a split, and brings to the ranks what they leave.
pub record Planned (S : Timetable) (owed : ℕ → ℕ) (R : Option Ranking) (f : List ℕ) : Type 0 where
  pub feasible : Feasible S (plan_of f)
  pub splits : Split S owed (plan_of f) (split_of S f)
  pub brings : (k : ℕ) → net.brought (day S owed R) (suc k) f ≡ all_owed S owed + extra S R (plan_of f) (split_of S f) k

abbrev pub FlowToPlan : Type 0
FlowToPlan =
    (S : Timetable) → Sound S → (owed : ℕ → ℕ) (R : Option Ranking) (f : List ℕ) → net.Flow (day S owed R) f
    → net.brought (day S owed R) 1 f ≡ all_owed S owed → Planned S owed R f

-- Without ranks it delivers no more than is owed.
abbrev pub FlowDelivers : Type 0
FlowDelivers =
    (S : Timetable) → Sound S → (owed : ℕ → ℕ) (f : List ℕ) → net.Flow (day S owed None) f
    → net.brought (day S owed None) 1 f ≡ all_owed S owed → Delivers S owed (plan_of f)

-- A board cut for k is a cut for suc k on the day network, just as wide.
abbrev pub BoardCut : Type 0
BoardCut =
    (S : Timetable) → Sound S → (owed : ℕ → ℕ) (R : Ranking) (k : ℕ) (X : ℕ → ℕ → Bool) → Cut S R k X
    → net.Cut (day S owed (Some R)) (suc k) (nodes_of S X) × (net.width (day S owed (Some R)) (nodes_of S X) ≡ width S owed X)

-- A cut for suc k on the day network is a board cut for k, no wider.
abbrev pub NetworkCut : Type 0
NetworkCut =
    (S : Timetable) → Sound S → (owed : ℕ → ℕ) (R : Ranking) (k : ℕ) (Z : ℕ → Bool) → net.Cut (day S owed (Some R)) (suc k) Z
    → Cut S R k (board_of S Z) × (width S owed (board_of S Z) ≤ net.width (day S owed (Some R)) Z)

-- With or without ranks: if the greatest flow to all owed brings less, no plan delivers all owed;
abbrev pub Unservable : Type 0
Unservable =
    (S : Timetable) → Sound S → (owed : ℕ → ℕ) (R : Option Ranking) (f : List ℕ) → net.Flow (day S owed R) f → Greatest (day S owed R) 1 f
    → net.brought (day S owed R) 1 f < all_owed S owed → Servable S owed → ⊥

-- and if some plan delivers it, the greatest flow brings just that.
abbrev pub ServableBrought : Type 0
ServableBrought =
    (S : Timetable) → Sound S → (owed : ℕ → ℕ) (R : Option Ranking) (f : List ℕ) → Servable S owed → net.Flow (day S owed R) f
    → Greatest (day S owed R) 1 f → net.brought (day S owed R) 1 f ≡ all_owed S owed

-- A flow that brings all owed shows that it can be delivered;
abbrev pub FlowServes : Type 0
FlowServes =
    (S : Timetable) → Sound S → (owed : ℕ → ℕ) (R : Option Ranking) (f : List ℕ) → net.Flow (day S owed R) f
    → net.brought (day S owed R) 1 f ≡ all_owed S owed → Servable S owed

-- and where it can be, some plan delivers exactly that.
abbrev pub ServableExactly : Type 0
ServableExactly = (S : Timetable) → Sound S → (owed : ℕ → ℕ) → Servable S owed → (p : ℕ → ℕ → ℕ) × Feasible S p × Delivers S owed p

-- what a flow grants to each rank of the ranking
abbrev pub figures_of : Timetable → (ℕ → ℕ) → Ranking → List ℕ → ℕ → ℕ
figures_of S owed R f r = net.granted (day S owed (Some R)) (suc r) f

-- for each k a cut for suc k that is the smallest set settled under f
abbrev pub SmallestCuts : Timetable → (ℕ → ℕ) → Ranking → List ℕ → (ℕ → ℕ → Bool) → Type 0
SmallestCuts S owed R f Z = (k : ℕ) → k ≤ R.ranks → net.Cut (day S owed (Some R)) (suc k) (Z k) × Smallest (day S owed (Some R)) (suc k) f (Z k)

pub record Quoted (S : Timetable) (owed : ℕ → ℕ) (R : Ranking) (f : List ℕ) (Z : ℕ → ℕ → Bool) : Type 0 where
  pub best : Best S owed R (figures_of S owed R f)
  pub cuts : (k : ℕ) → k ≤ R.ranks → SmallestFull S owed R k (figures_of S owed R f) (board_of S (Z k))

-- A flow that brings all owed, with these cuts, is a best quote, and the cuts on the board are the smallest full ones.
abbrev pub FlowQuotes : Type 0
FlowQuotes =
    (S : Timetable) → Sound S → (owed : ℕ → ℕ) (R : Ranking) (f : List ℕ) (Z : ℕ → ℕ → Bool) → net.Flow (day S owed (Some R)) f
    → net.brought (day S owed (Some R)) 1 f ≡ all_owed S owed → SmallestCuts S owed R f Z → Quoted S owed R f Z

-- the mark of the place y@t: how many of the cuts for 0 to K hold it
abbrev pub mark_of : Timetable → Ranking → (ℕ → ℕ → Bool) → ℕ → ℕ → ℕ
mark_of S R Z y t = total (suc R.ranks) (λ k. if board_of S (Z k) y t then 1 else 0)

-- A list of these figures, and one of these marks, are a right quote.
abbrev pub QuoteRight : Type 0
QuoteRight =
    (S : Timetable) → Sound S → (owed : ℕ → ℕ) (R : Ranking) (f : List ℕ) (Z : ℕ → ℕ → Bool) → net.Flow (day S owed (Some R)) f
    → net.brought (day S owed (Some R)) 1 f ≡ all_owed S owed → SmallestCuts S owed R f Z → (figures marks : List ℕ)
    → ((r : ℕ) → r < R.ranks → slice_index figures r ≡ figures_of S owed R f r)
    → ((y t : ℕ) → y < 32 → t ≤ S.horizon → slice_index marks (y * suc S.horizon + t) ≡ mark_of S R Z y t)
    → Right S owed R figures marks

-- Where all owed can be delivered, there is a best quote.
abbrev pub QuoteExists : Type 0
QuoteExists = (S : Timetable) → Sound S → (owed : ℕ → ℕ) (R : Ranking) → Servable S owed → (f : List ℕ) × (Z : ℕ → ℕ → Bool) × Quoted S owed R f Z

-- Where less is owed, what was servable still is, and the greatest flow brings all that is still owed.
abbrev pub LessOwed : Timetable → (ℕ → ℕ) → (ℕ → ℕ) → Type 0
LessOwed S less owed = (d : ℕ) → d < length S.depots → less d ≤ owed d

abbrev pub Release : Type 0
Release = (S : Timetable) (owed less : ℕ → ℕ) → LessOwed S less owed → Servable S owed → Servable S less

abbrev pub ReleaseFlow : Type 0
ReleaseFlow =
    (S : Timetable) → Sound S → (owed less : ℕ → ℕ) → LessOwed S less owed → Servable S owed → (R : Option Ranking) (f : List ℕ)
    → net.Flow (day S less R) f → Greatest (day S less R) 1 f → net.brought (day S less R) 1 f ≡ all_owed S less

-- For programs: lists of arcs and ranks are the day network where they are so number by number.
pub record Built (S : Timetable) (owed : ℕ → ℕ) (R : Option Ranking) (arcs : List Arc) (ranks : List (Option ℕ)) : Type 0 where
  pub count : length arcs ≡ arc_count S
  pub departures : (l t : ℕ) → l < length S.lanes → t < 48 → slice_index_or arcs (l * 48 + t) no_arc ≡ departure_arc S l t
  pub places : (d t : ℕ) → d < length S.depots → t < 48 → slice_index_or arcs (lane_arcs S + (d * 48 + t)) no_arc ≡ depot_arc S owed d t
  pub depots : (d : ℕ) → d < length S.depots → slice_index_or arcs (place_arcs S + d) no_arc ≡ owed_arc owed d
  pub nodes : length ranks ≡ 1554
  pub ranked : (v : ℕ) → v < 1554 → slice_index_or ranks v None ≡ node_rank S R v

abbrev pub BuiltIsDay : Type 0
BuiltIsDay =
    (S : Timetable) (owed : ℕ → ℕ) (R : Option Ranking) (arcs : List Arc) (ranks : List (Option ℕ)) → Built S owed R arcs ranks
    → ◌≡◌ {A = net.Network} (record { nodes = length ranks; source = 1536; arcs = arcs; rank = λ v. slice_index_or ranks v None }) (day S owed R)
