use Rattle.std.proofs.Common.{◌-◌, ◌≤◌, suc}
use Rattle.queue.specs.Items.{items, slot_count}
use Rattle.board.specs.States.{state_of}
use Rattle.run_sheet.specs.Lists.{loads_of}
use Rattle.run_sheet.proofs.Chains.{Following}
use Rattle.run_sheet.proofs.finding.follow.Given as goal

abbrev pub invariant-loop-lane : goal.invariant-loop-lane
invariant-loop-lane l = record {
  way : Following (state_of l.board) (loads_of (state_of l.board) l.loads) l.start (items l.way) l.yard l.period l.pallets;
  slots : 47 ≤ slot_count l.way;
}

abbrev pub decreases-loop-lane : goal.decreases-loop-lane
decreases-loop-lane l = suc (state_of l.board).grid.horizon - l.period
