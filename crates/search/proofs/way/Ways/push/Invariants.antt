use Rattle.search.specs.Layouts.{laid}
use Rattle.search.specs.Visits.{level}
use Rattle.search.proofs.Ways.{Pushing}
use Rattle.search.proofs.way.Ways.push.Given as goal

abbrev pub invariant-loop-at : goal.invariant-loop-at
invariant-loop-at l = Pushing (laid l.self.map) l.initial.loads l.loads l.self.visits.now l.node l.at l.amount

abbrev pub decreases-loop-at : goal.decreases-loop-at
decreases-loop-at l = level l.self.visits.now l.at
