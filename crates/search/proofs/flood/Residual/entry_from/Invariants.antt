use Rattle.search.specs.Ends.{other}
use Rattle.search.specs.Layouts.{laid}
use Rattle.search.proofs.Entering.{Next}
use Rattle.search.proofs.Latest.{link_to}
use Rattle.search.proofs.flood.Residual.entry_from.Given as goal

abbrev pub invariant-loop-at : goal.invariant-loop-at
invariant-loop-at l = Next (laid l.self.map) (other l.end) l.node (link_to l.at)

abbrev pub decreases-loop-at : goal.decreases-loop-at
decreases-loop-at l = link_to l.at
