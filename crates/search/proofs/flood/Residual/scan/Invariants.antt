use Rattle.std.proofs.Common.{◌≡◌}
use Rattle.queue.specs.Items.{items, slot_count}
use Rattle.search.specs.Layouts.{laid}
use Rattle.search.proofs.Latest.{link_to}
use Rattle.search.proofs.Turn.{Scanned}
use Rattle.search.proofs.flood.Residual.scan.Given as goal

abbrev pub invariant-loop-at : goal.invariant-loop-at
invariant-loop-at l =
    Scanned (laid l.self.map) l.self.loads.now l.end l.initial.visits l.visits l.node (items l.initial.waiting) (items l.waiting) (link_to l.at)
    × (slot_count l.waiting ≡ slot_count l.initial.waiting)

abbrev pub decreases-loop-at : goal.decreases-loop-at
decreases-loop-at l = link_to l.at
