-- Which arcs of a network may be crossed under its loads.
use Rattle.std.specs.Prelude.{◌≡◌, ℕ, ◌<◌, Bool, true, List, length, slice_index, slice_index_or}
use Rattle.flow.specs.Network.{Network}
use Rattle.flow.specs.Pushing.{no_arc}
use Rattle.search.specs.Ends.{other, usable_by}
use Rattle.search.specs.Links.{key}
use Rattle.search.specs.declared.end.End.{End}

-- the arc numbered e may be crossed from that end
abbrev pub Usable : Network → List ℕ → End → ℕ → Type 0
Usable N f end e = usable_by end (slice_index_or N.arcs e no_arc) (slice_index f e) ≡ true

-- no arc that may be crossed leaves the set
abbrev pub Closed : Network → List ℕ → (ℕ → Bool) → Type 0
Closed N f S =
    (end : End) (e : ℕ) → e < length N.arcs → S (key end N.arcs e) ≡ true → Usable N f end e → S (key (other end) N.arcs e) ≡ true

-- the least closed set that has the source
pub record Reach (N : Network) (f : List ℕ) (S : ℕ → Bool) : Type 0 where
  pub source : S N.source ≡ true
  pub closed : Closed N f S
  pub least : (R : ℕ → Bool) → R N.source ≡ true → Closed N f R → (v : ℕ) → S v ≡ true → R v ≡ true
