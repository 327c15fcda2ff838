use Rattle.timetable.proofs.Unique.{figures_unique, right_unique, marks_nested, marks_live}
use Rattle.timetable.proofs.one_right_quote.Goals as goal

pub returns : goal.returns
returns c = record { figures = figures_unique; unique = right_unique; nested = marks_nested; live = marks_live }
