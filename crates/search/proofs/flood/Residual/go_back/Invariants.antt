use Rattle.std.proofs.Common.{◌<◌}
use Rattle.search.specs.Layouts.{laid}
use Rattle.search.specs.Visits.{Reentered, level}
use Rattle.search.proofs.flood.Residual.go_back.Given as goal

abbrev pub invariant-loop-visits : goal.invariant-loop-visits
invariant-loop-visits l = Reentered (laid l.self.map) l.initial.visits l.visits × (0 < level l.visits l.at)

abbrev pub decreases-loop-visits : goal.decreases-loop-visits
decreases-loop-visits l = level l.visits l.at
