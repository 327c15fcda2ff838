use Rattle.std.proofs.Common.{◌≡◌, ℕ, ◌<◌, ◌/◌, ◌%◌, slice_index}
use Rattle.board.specs.States.{plan_on, state_of}
use Rattle.run_sheet.specs.Lists.{departing}
use Rattle.run_sheet.proofs.laying.copy_loads.Given as goal

abbrev pub invariant-loop-place : goal.invariant-loop-place
invariant-loop-place l = (k : ℕ) → k < l.place → slice_index l.loads k ≡ departing (state_of l.board) (plan_on l.board) (k / l.periods) (k % l.periods)
