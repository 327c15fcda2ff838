-- How the arcs at a node are found one from another.
use Rattle.std.specs.Prelude.{◌≡◌, ℕ, zero, suc, ◌<◌, if◌then◌else◌, List, length, ◌==◌, slice_index_or}
use Rattle.flow.specs.Pushing.{no_arc}
use Rattle.flow.specs.declared.Arc.{Arc}
use Rattle.search.specs.Ends.{end_of}
use Rattle.search.specs.Entries.{first_at, next_at}
use Rattle.search.specs.declared.end.End.{End}
use Rattle.search.specs.declared.entry.NodeEntry.{NodeEntry}

-- the node at that end of the arc numbered e
abbrev pub key : End → List Arc → ℕ → ℕ
key end arcs e = end_of end (slice_index_or arcs e no_arc)

-- one more than the last e below n where at e is v, or 0
abbrev pub latest : (ℕ → ℕ) → ℕ → ℕ → ℕ
latest at v zero = 0
latest at v (suc e) = if at e == v then suc e else latest at v e

-- the first n arcs are linked: from each node to its last arc, and from each arc to the one before it at the same node
abbrev pub LinkedBy : (ℕ → ℕ) → ℕ → ℕ → (ℕ → ℕ) → (ℕ → ℕ) → Type 0
LinkedBy at nodes n first next =
    ((v : ℕ) → v < nodes → first v ≡ latest at v n) × ((e : ℕ) → e < n → next e ≡ latest at (at e) e)

-- all arcs are linked at either end
abbrev pub Linked : List Arc → List ℕ → List ℕ → List NodeEntry → Type 0
Linked arcs next_out next_in nodes = (end : End) → LinkedBy (key end arcs) (length nodes) (length arcs) (first_at end nodes) (next_at end next_out next_in)
