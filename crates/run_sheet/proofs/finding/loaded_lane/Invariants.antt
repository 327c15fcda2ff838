use Rattle.std.proofs.Common.{ℕ, ◌<◌}
use Rattle.board.specs.States.{state_of}
use Rattle.run_sheet.specs.Finding.{Leaves}
use Rattle.run_sheet.specs.Lists.{loads_of}
use Rattle.run_sheet.proofs.finding.loaded_lane.Given as goal

abbrev pub invariant-loop-number : goal.invariant-loop-number
invariant-loop-number l = (k : ℕ) → k < l.number → Leaves (state_of l.board) (loads_of (state_of l.board) l.loads) l.yard l.period k → ⊥
