-- What loads, marks and figures say once the ranks are served in their order.
use Rattle.std.specs.Prelude.{◌≡◌, ℕ, ◌+◌, ◌-◌, ◌<◌, ◌≤◌, Bool, List, nat_lt, slice_index}
use Rattle.flow.specs.Network.{Network, Flow, Cut, Settled, Inside, brought, granted, width}
use Rattle.flow.specs.Theory.{Greatest}
use Rattle.search.specs.Gains.{Idle}

-- the nodes whose mark is above k
abbrev pub above : List ℕ → ℕ → ℕ → Bool
above marks k v = nat_lt k (slice_index marks v)

-- R is a cut for k that is just as wide as what f brings to the ranks below k; no flow brings more to them; and R lies inside
-- every cut for k of its width.
pub record NarrowestCut (N : Network) (k : ℕ) (f : List ℕ) (R : ℕ → Bool) : Type 0 where
  pub cut : Cut N k R
  pub tight : brought N k f ≡ width N R
  pub greatest : Greatest N k f
  pub inside : (X : ℕ → Bool) → Cut N k X → width N X ≡ width N R → Inside N R X

-- The loads are a flow. For each k up to the number of ranks, the nodes whose mark is above k are the smallest of the narrowest
-- cuts for k. A mark is a number of k from 0 to `ranks`. Each figure is what the flow brings to its rank.
pub record Served (N : Network) (ranks : ℕ) (loads marks figures : List ℕ) : Type 0 where
  pub flow : Flow N loads
  pub cuts : (k : ℕ) → k ≤ ranks → NarrowestCut N k loads (above marks k)
  pub low : (v : ℕ) → slice_index marks v ≤ ranks + 1
  pub granted : (r : ℕ) → r < ranks → slice_index figures r ≡ granted N r loads

-- While it goes on: R is a cut that is settled, and lies inside every cut of its width.
pub record Wall (N : Network) (j : ℕ) (f : List ℕ) (R : ℕ → Bool) : Type 0 where
  pub cut : Cut N j R
  pub settled : Settled N j f R
  pub inside : (X : ℕ → Bool) → Cut N j X → width N X ≡ width N R → Inside N R X

-- the ranks are served for each j below k
pub record Standing (N : Network) (k : ℕ) (f marks figures : List ℕ) : Type 0 where
  pub flow : Flow N f
  pub idle : Idle N (k - 1) f
  pub low : (v : ℕ) → slice_index marks v ≤ k
  pub walls : (j : ℕ) → j < k → Wall N j f (above marks j)
  pub shares : (r : ℕ) → r + 1 < k → slice_index figures r ≡ granted N r f
