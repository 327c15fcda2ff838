-- A test that computes: lists that pass it are a timetable within its bounds, with a row of capacities for each lane.
use Rattle.std.specs.Prelude.{◌≡◌, ℕ, Bool, ◌&&◌, List, [], length, IsTrue, ◌==◌, nat_le}
use Rattle.std.specs.List.{list_all}
use Rattle.timetable.specs.declared.Lane.{Lane}
use Rattle.timetable.specs.Plans.{Sound}
use Rattle.timetable.specs.Rows.{Table, passes, is_sound}
use Rattle.expanded.specs.Lists.{timetable_by}

-- no capacity of a row is above 9,999
abbrev pub is_low : List ℕ → Bool
is_low row = list_all (λ c. nat_le c 9999) row

-- all but the capacities
abbrev pub table_of : ℕ → ℕ → List Lane → List ℕ → Table
table_of horizon origin lanes depots = record { horizon = horizon; origin = origin; lanes = lanes; capacities = []; depots = depots }

abbrev pub is_schedule : ℕ → ℕ → List Lane → List (List ℕ) → List ℕ → Bool
is_schedule horizon origin lanes capacities depots =
    passes (is_sound (table_of horizon origin lanes depots)) && list_all is_low capacities && (length capacities == length lanes)

abbrev pub ListsSound : Type 0
ListsSound =
    (horizon origin : ℕ) (lanes : List Lane) (capacities : List (List ℕ)) (depots : List ℕ) → IsTrue (is_schedule horizon origin lanes capacities depots)
    → Sound (timetable_by horizon origin lanes capacities depots) × (length capacities ≡ length lanes)
