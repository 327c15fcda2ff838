-- The timetable of a schedule.
use Rattle.timetable.specs.Plans.{Timetable}
use Rattle.expanded.specs.Lists.{timetable_by}
use Rattle.expanded.specs.declared.schedule.Schedule.{Schedule}

abbrev pub timetable_of : Schedule → Timetable
timetable_of s = timetable_by s.horizon s.origin s.lanes.now s.capacities.now s.depots.now
