use Rattle.std.proofs.Common.{◌≡◌, length}
use Rattle.search.specs.Layouts.{laid}
use Rattle.search.specs.Served.{Standing}
use Rattle.search.specs.Visits.{Found}
use Rattle.search.proofs.serving.serve_ranks.Given as goal

abbrev pub invariant-loop-k : goal.invariant-loop-k
invariant-loop-k l =
    Standing (laid l.map) l.k l.loads l.marks l.figures × Found (laid l.map) l.loads l.visits × (length l.slots ≡ (laid l.map).nodes)
