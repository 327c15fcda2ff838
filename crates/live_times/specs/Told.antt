-- The times that belong to a timetable: each yard's first and last period, by as many lanes as the day has periods.
use Rattle.timetable.specs.Plans.{Timetable, Sound}
use Rattle.live_times.specs.declared.live.LiveTimes.{LiveTimes}
use Rattle.live_times.specs.Times.{ComeFrom, GoUntil}

pub record TimesOf (S : Timetable) (times : LiveTimes) : Type 0 where
  pub sound : Sound S
  pub come : ComeFrom S S.horizon times.come
  pub leave : GoUntil S S.horizon times.leave
