use Rattle.search.specs.Layouts.{laid}
use Rattle.search.specs.Visits.{level}
use Rattle.search.proofs.Ways.{Walking}
use Rattle.search.proofs.way.Ways.bottleneck.Given as goal

abbrev pub invariant-loop-at : goal.invariant-loop-at
invariant-loop-at l = Walking (laid l.self.map) l.loads l.self.visits.now l.node l.at l.amount

abbrev pub decreases-loop-at : goal.decreases-loop-at
decreases-loop-at l = level l.self.visits.now l.at
