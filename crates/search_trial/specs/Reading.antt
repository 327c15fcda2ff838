-- The network that numbers write.
use Rattle.std.specs.Prelude.{◌≡◌, ℕ, ◌*◌, List, length, drop, replicate, Ok, Err, Some, None, Option, Result, vec_items, slice_index, ⊤}
use Rattle.flow.specs.Network.{Network}
use Rattle.flow.specs.declared.Arc.{Arc}
use Rattle.network.specs.Limits.{written}
use Rattle.network.specs.Stored.{fault, stored_meaning}
use Rattle.search_trial.specs.Entries.{arc_of, entries, rank_of, short}
use Rattle.search_trial.specs.declared.trial.Trial.{Trial}
use Rattle.search_trial.specs.declared.trial.error.TrialError.{TrialError}
use Rattle.search_trial.specs.declared.trial.error.TrialError.TheVariants.{OutOfMemory, NoNetwork}

-- a trial of the network that is not served yet: each load, mark and figure is 0
pub record Fresh (t : Trial) (N : Network) (asked : ℕ) : Type 0 where
  pub net : stored_meaning t.net ≡ N
  pub ranks : t.ranks ≡ asked
  pub loads : vec_items t.loads ≡ replicate (length N.arcs) 0
  pub marks : vec_items t.marks ≡ replicate N.nodes 0
  pub figures : vec_items t.figures ≡ replicate asked 0
  pub answer : t.answer ≡ Ok tt

-- The numbers give how many arcs there are, the source, and the ranks asked for; then the nodes' ranks:
abbrev pub ranks_in : ℕ → List ℕ → List (Option ℕ)
ranks_in nodes ns = entries rank_of 1 nodes (drop 3 ns)

-- then the arcs;
abbrev pub arcs_in : ℕ → List ℕ → List Arc
arcs_in nodes ns = entries arc_of 3 (slice_index ns 0) (drop nodes (drop 3 ns))

-- and other numbers may follow
abbrev pub behind : ℕ → List ℕ → List ℕ
behind nodes ns = drop (3 * slice_index ns 0) (drop nodes (drop 3 ns))

-- They make a network, and a trial of it; or what is wrong with them is told. It is also told where memory ran out.
abbrev pub Reads : ℕ → List ℕ → List ℕ → Result Trial TrialError → Type 0
Reads nodes ns rest (Ok t) =
    (fault (short ns 1) (arcs_in nodes ns) (ranks_in nodes ns) ≡ None) × Fresh t (written (short ns 1) (arcs_in nodes ns) (ranks_in nodes ns)) (short ns 2)
    × (rest ≡ behind nodes ns)
Reads nodes ns rest (Err (NoNetwork f)) = (fault (short ns 1) (arcs_in nodes ns) (ranks_in nodes ns) ≡ Some f) × (rest ≡ behind nodes ns)
Reads nodes ns rest (Err (OutOfMemory e)) = ⊤
