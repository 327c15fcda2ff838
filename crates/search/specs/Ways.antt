-- The way by which a node was reached, and sending more along it.
use Rattle.std.specs.Prelude.{◌≡◌, ℕ, zero, suc, ◌≤◌, Bool, true, List, slice_index, slice_index_or}
use Rattle.flow.specs.Network.{Network}
use Rattle.flow.specs.Pushing.{no_arc, Carries, Fitting}
use Rattle.search.specs.Ends.{spare_by}
use Rattle.search.specs.Residual.{Closed}
use Rattle.search.specs.Visits.{visit_of, parent}
use Rattle.search.specs.declared.visit.Visit.{Visit}

-- how much more may go over the arc that v was reached by
abbrev pub spare_to : Network → List ℕ → List Visit → ℕ → ℕ
spare_to N f visits v = spare_by (visit_of visits v).side (slice_index_or N.arcs (visit_of visits v).arc no_arc) (slice_index f (visit_of visits v).arc)

-- d more may go over each of the n last arcs of the way to v
abbrev pub Ample : Network → List ℕ → List Visit → ℕ → ℕ → ℕ → Type 0
Ample N f visits d zero v = Unit {0}
Ample N f visits d (suc n) v = (d ≤ spare_to N f visits v) × Ample N f visits d n (parent N visits v)

-- From the loads f to g, d more went from the source to t, along a way that stays in each set that no arc to be crossed leaves.
pub record Sent (N : Network) (f g : List ℕ) (d t : ℕ) : Type 0 where
  pub fits : Fitting N g
  pub carries : Carries N f g d N.source t
  pub closed : (R : ℕ → Bool) → R N.source ≡ true → Closed N f R → Closed N g R
  pub holds : (R : ℕ → Bool) → R N.source ≡ true → Closed N f R → R t ≡ true
