use Rattle.std.proofs.Common.{length}
use Rattle.queue.specs.Items.{items}
use Rattle.board.specs.States.{state_of}
use Rattle.run_sheet.proofs.Lowering.{Lowering}
use Rattle.run_sheet.proofs.taking.take_off.Given as goal

abbrev pub invariant-loop-leg : goal.invariant-loop-leg
invariant-loop-leg l = Lowering (state_of l.board) l.pallets (items l.initial.way) l.initial.loads l.loads l.initial.legs l.legs (items l.way) l.count

abbrev pub decreases-loop-leg : goal.decreases-loop-leg
decreases-loop-leg l = length (items l.way)
