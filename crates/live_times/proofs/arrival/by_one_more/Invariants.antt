use Rattle.std.proofs.Common.{◌≡◌, ℕ, ◌<◌, ◌≤◌, ◌||◌, length}
use Rattle.timetable.specs.Plans.{some_below}
use Rattle.live_times.specs.Times.{by, time_of, brings}
use Rattle.live_times.proofs.arrival.by_one_more.Given as goal

abbrev pub invariant-loop-lane : goal.invariant-loop-lane
invariant-loop-lane l = record {
  yards : length l.next ≡ 32;
  reached : (y t : ℕ) → y < 32 → t ≤ l.horizon → by (time_of l.next y) t ≡ (by (time_of l.start y) t || some_below l.lane-index (brings l.lanes l.times y t));
}
