use Rattle.std.proofs.Common.{◌≡◌}
use Rattle.timetable.specs.Plans.{Timetable, Sound}
use Rattle.live_times.specs.Times.{GoUntil}
use Rattle.live_times.proofs.departure.latest.Given as goal

abbrev pub invariant-loop : goal.invariant-loop
invariant-loop l = (S : Timetable) → Sound S → S.horizon ≡ l.horizon → S.lanes ≡ l.lanes → S.depots ≡ l.depots → GoUntil S l.counter l.times
