use Rattle.std.proofs.Common.{◌≡◌, ◌+◌, ◌-◌, length}
use Rattle.queue.specs.Items.{items, slot_count}
use Rattle.search.specs.Layouts.{laid}
use Rattle.search.specs.Visits.{Searching, count}
use Rattle.search.proofs.flood.Residual.flood.Given as goal

abbrev pub invariant-loop-node : goal.invariant-loop-node
invariant-loop-node l = Searching (laid l.self.map) l.self.loads.now l.visits (items l.waiting) × (slot_count l.waiting ≡ (laid l.self.map).nodes)

abbrev pub decreases-loop-node : goal.decreases-loop-node
decreases-loop-node l = (laid l.self.map).nodes + length (items l.waiting) - count l.visits
