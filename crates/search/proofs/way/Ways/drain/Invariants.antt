use Rattle.search.specs.Layouts.{laid}
use Rattle.search.proofs.Gains.{Drained}
use Rattle.search.proofs.way.Ways.drain.Given as goal

abbrev pub invariant-loop-node : goal.invariant-loop-node
invariant-loop-node l = Drained (laid l.self.map) l.k l.initial.loads l.loads l.self.visits.now l.total l.node
