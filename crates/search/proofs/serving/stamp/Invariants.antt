use Rattle.search.specs.Visits.{reached}
use Rattle.search.proofs.Stamping.{Stamped}
use Rattle.search.proofs.serving.stamp.Given as goal

abbrev pub invariant-loop-v : goal.invariant-loop-v
invariant-loop-v l = Stamped (reached l.visits) l.mark l.initial.marks l.marks l.v
