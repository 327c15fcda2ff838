use Rattle.std.proofs.Common.{◌≡◌, ℕ, ◌<◌, ◌&&◌, length, slice_index}
use Rattle.std.specs.Prelude.{nat_le, ◌==◌}
use Rattle.timetable.specs.Plans.{some_below}
use Rattle.live_times.specs.Times.{until, time_of}
use Rattle.live_times.proofs.departure.at_depots.Given as goal

abbrev pub invariant-loop-depot : goal.invariant-loop-depot
invariant-loop-depot l = record {
  yards : length l.times ≡ 32;
  left : (y t : ℕ) → y < 32 → until (time_of l.times y) t ≡ (nat_le t l.horizon && some_below l.depot-index (λ d. slice_index l.depots d == y));
}
