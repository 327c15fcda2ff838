use Rattle.std.proofs.Common.{◌≡◌, ◌-◌, eqb, length}
use Rattle.flow.specs.Network.{brought, width}
use Rattle.search.specs.Gains.{Gained}
use Rattle.search.specs.Layouts.{laid}
use Rattle.search.specs.Visits.{Found}
use Rattle.search.proofs.rounds.saturate.Given as goal

abbrev pub invariant-rounds : goal.invariant-rounds
invariant-rounds l =
    Gained (laid l.map) l.k l.initial.loads l.loads l.total × Found (laid l.map) l.loads l.visits × (length l.slots ≡ (laid l.map).nodes)

abbrev pub decreases-rounds : goal.decreases-rounds
decreases-rounds l = width (laid l.map) (eqb (laid l.map).source) - brought (laid l.map) l.k l.loads
