use Rattle.std.proofs.Common.{◌≡◌}
use Rattle.timetable.specs.Plans.{Timetable, Sound}
use Rattle.live_times.specs.Times.{ComeFrom}
use Rattle.live_times.proofs.arrival.earliest.Given as goal

abbrev pub invariant-loop : goal.invariant-loop
invariant-loop l = (S : Timetable) → Sound S → S.horizon ≡ l.horizon → S.origin ≡ l.origin → S.lanes ≡ l.lanes → ComeFrom S l.counter l.times
