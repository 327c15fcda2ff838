-- A network with three ranks, on which the definitions compute.
use Rattle.std.specs.Prelude.{◌≡◌, ℕ, Bool, true, false, List, [], ◌∷◌, Some, None, slice_index_or}
use Rattle.flow.specs.Network.{Arc, Network, granted}
use Rattle.flow.specs.Theory.{First}
use Rattle.flow.specs.Checker.{Most}

abbrev arc : ℕ → ℕ → ℕ → Arc
arc a b c = record { tail = a; head = b; capacity = c }

-- 0 is the source, 5 and 9 have rank 0, 6 and 7 rank 1, 8 has rank 2, and 1 to 4 have none
abbrev pub example : Network
example = record {
  nodes = 10;
  source = 0;
  arcs =
      arc 0 1 5 ∷ arc 0 2 4 ∷ arc 1 3 4 ∷ arc 1 8 1 ∷ arc 2 3 2 ∷ arc 2 4 3 ∷ arc 3 5 3 ∷ arc 3 6 3 ∷ arc 4 6 2 ∷ arc 4 7 2
      ∷ arc 6 8 2 ∷ arc 7 9 1 ∷ [];
  rank = λ v. slice_index_or (None ∷ None ∷ None ∷ None ∷ None ∷ Some 0 ∷ Some 1 ∷ Some 1 ∷ Some 2 ∷ Some 0 ∷ []) v None;
}

-- a flow, by the arcs in their order
abbrev pub served : List ℕ
served = 5 ∷ 4 ∷ 4 ∷ 1 ∷ 2 ∷ 2 ∷ 3 ∷ 3 ∷ 0 ∷ 2 ∷ 0 ∷ 1 ∷ []

-- the set of the nodes whose entry is true
abbrev pub members : List Bool → ℕ → Bool
members bs v = slice_index_or bs v false

-- a narrowest cut for each k up to 3: all nodes, all but those of rank 0, the nodes 0, 1 and 8, and the source
abbrev pub cuts : ℕ → ℕ → Bool
cuts k =
    slice_index_or
    (members (true ∷ true ∷ true ∷ true ∷ true ∷ true ∷ true ∷ true ∷ true ∷ true ∷ [])
    ∷ members (true ∷ true ∷ true ∷ true ∷ true ∷ false ∷ true ∷ true ∷ true ∷ false ∷ [])
    ∷ members (true ∷ true ∷ false ∷ false ∷ false ∷ false ∷ false ∷ false ∷ true ∷ false ∷ [])
    ∷ members (true ∷ []) ∷ [])
    k (λ v. false)

-- The most to rank 0 is 4, to the ranks 0 and 1 it is 8, and to all 9; one flow does all three.
pub record ExampleServed : Type 0 where
  pub first : Most example 1 4
  pub second : Most example 2 8
  pub all : Most example 3 9
  pub in_order : First example 3 served
  pub shares : (granted example 0 served ≡ 4) × (granted example 1 served ≡ 4) × (granted example 2 served ≡ 1)
