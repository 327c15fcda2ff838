use Rattle.timetable.proofs.Example.{example_holds_lem}
use Rattle.timetable.proofs.example_holds.Goals as goal

pub returns : goal.returns
returns c = example_holds_lem
