use Rattle.expanded.specs.Schedules.{timetable_of}
use Rattle.expanded.proofs.day.DayNetwork.is_live.Goals as goal

pub returns : goal.returns
returns g c = c.is_live.ensures (timetable_of c.args.self.now.schedule) c.args.self.now.timed
