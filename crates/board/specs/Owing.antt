-- What is owed at each depot.
use Rattle.std.specs.Prelude.{ℕ, ◌+◌, List, map}
use Rattle.slips.specs.declared.table.Entry.{Entry}
use Rattle.slips.specs.Owed.{owed_at, count_at}

-- What is owed at each depot, in their order: the pallets of its holds, without those that are released.
abbrev pub owed_by : List ℕ → List Entry → List ℕ
owed_by depots hs = map (λ y. owed_at y hs) depots

-- the same, with so many pallets more at one of them
abbrev pub owed_with : List ℕ → List Entry → ℕ → ℕ → List ℕ
owed_with depots hs yard pallets = map (λ y. owed_at y hs + count_at y yard pallets) depots
