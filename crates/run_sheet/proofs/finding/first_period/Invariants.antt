use Rattle.std.proofs.Common.{ℕ, ◌<◌}
use Rattle.board.specs.States.{state_of}
use Rattle.run_sheet.specs.Finding.{LeavesNone}
use Rattle.run_sheet.specs.Lists.{loads_of}
use Rattle.run_sheet.proofs.finding.first_period.Given as goal

abbrev pub invariant-loop-period : goal.invariant-loop-period
invariant-loop-period l = (t : ℕ) → t < l.period → LeavesNone (state_of l.board) (loads_of (state_of l.board) l.loads) (state_of l.board).grid.origin t
