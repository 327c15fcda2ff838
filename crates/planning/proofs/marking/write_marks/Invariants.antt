use Rattle.std.proofs.Common.{◌≡◌, ℕ, ◌/◌, ◌%◌, ◌<◌, slice_index}
use Rattle.expanded.specs.Schedules.{timetable_of}
use Rattle.planning.specs.Marks.{mark_at}
use Rattle.planning.proofs.marking.write_marks.Given as goal

abbrev pub invariant-loop-place : goal.invariant-loop-place
invariant-loop-place g l = (k : ℕ) → k < l.place → slice_index l.marks k ≡ mark_at (timetable_of l.schedule) l.ranks l.found (k / l.periods) (k % l.periods)
