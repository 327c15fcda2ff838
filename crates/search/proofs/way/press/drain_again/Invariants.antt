use Rattle.std.proofs.Common.{◌≡◌, length}
use Rattle.search.specs.Gains.{Gained}
use Rattle.search.specs.Layouts.{laid}
use Rattle.search.specs.Visits.{Tree}
use Rattle.search.proofs.way.press.drain_again.Given as goal

abbrev pub invariant-loop-node : goal.invariant-loop-node
invariant-loop-node l =
    Gained (laid l.map) l.k l.initial.loads l.loads l.total × Tree (laid l.map) l.visits × (length l.shut ≡ (laid l.map).nodes)
