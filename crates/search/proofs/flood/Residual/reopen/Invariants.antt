use Rattle.std.proofs.Common.{◌≡◌, length}
use Rattle.search.specs.Layouts.{laid}
use Rattle.search.specs.Visits.{Reentered}
use Rattle.search.proofs.flood.Residual.reopen.Given as goal

abbrev pub invariant-loop : goal.invariant-loop
invariant-loop l = Reentered (laid l.self.map) l.initial.visits l.visits × (length l.shut ≡ (laid l.self.map).nodes)
