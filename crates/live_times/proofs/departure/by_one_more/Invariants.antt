use Rattle.std.proofs.Common.{◌≡◌, ℕ, ◌<◌, ◌||◌, length}
use Rattle.timetable.specs.Plans.{some_below}
use Rattle.live_times.specs.Times.{until, time_of, takes}
use Rattle.live_times.proofs.departure.by_one_more.Given as goal

abbrev pub invariant-loop-lane : goal.invariant-loop-lane
invariant-loop-lane l = record {
  yards : length l.next ≡ 32;
  left : (y t : ℕ) → y < 32 → until (time_of l.next y) t ≡ (until (time_of l.start y) t || some_below l.lane-index (takes l.lanes l.times y t));
}
