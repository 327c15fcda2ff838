use Rattle.std.proofs.Common.{◌≡◌, length}
use Rattle.search.specs.Gains.{Gained}
use Rattle.search.specs.Layouts.{laid}
use Rattle.search.specs.Visits.{Reentered}
use Rattle.search.proofs.way.press.press.Given as goal

abbrev pub invariant-loop : goal.invariant-loop
invariant-loop l =
    Gained (laid l.map) l.k l.initial.loads l.loads l.total × Reentered (laid l.map) l.initial.visits l.visits × (length l.shut ≡ (laid l.map).nodes)
