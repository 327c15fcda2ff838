-- The timetable that lists in memory are.
use Rattle.std.specs.Prelude.{ℕ, List, [], slice_index, slice_index_or}
use Rattle.timetable.specs.declared.Lane.{Lane}
use Rattle.timetable.specs.Plans.{Timetable}

abbrev pub timetable_by : ℕ → ℕ → List Lane → List (List ℕ) → List ℕ → Timetable
timetable_by horizon origin lanes capacities depots = record {
  horizon = horizon;
  origin = origin;
  lanes = lanes;
  capacity = λ l t. slice_index (slice_index_or capacities l []) t;
  depots = depots;
}
