use Rattle.std.proofs.Common.{map, vec_items}
use Rattle.board.specs.States.{plan_on, state_of}
use Rattle.run_sheet.specs.Calls.{loaded}
use Rattle.run_sheet.specs.Lists.{loads_of}
use Rattle.run_sheet.specs.Sheets.{state_in, loads_in}
use Rattle.run_sheet.proofs.Split.{Splitting}
use Rattle.run_sheet.proofs.splitting.all_runs.Given as goal

abbrev pub invariant-loop-count : goal.invariant-loop-count
invariant-loop-count l = Splitting (state_of l.board) (plan_on l.board) (state_in l.sheet) (loads_in l.sheet) (map vec_items (vec_items l.runs)) l.legs

abbrev pub decreases-loop-count : goal.decreases-loop-count
decreases-loop-count l = loaded (state_of l.board) (loads_of (state_of l.board) (loads_in l.sheet))
