use Rattle.timetable.proofs.Rows.{certified_holds}
use Rattle.timetable.proofs.row_checker.Goals as goal

pub returns : goal.returns
returns c = certified_holds
