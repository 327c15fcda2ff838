-- Loads in a list: that of the lane l in the period t stands at l × (horizon + 1) + t.
use Rattle.std.specs.Prelude.{◌≡◌, ℕ, suc, ◌+◌, ◌*◌, ◌<◌, ◌≤◌, true, false, ◌≢◌, List, length, slice_index, if◌then◌else◌}
use Rattle.timetable.specs.Plans.{Timetable, is_depot, arriving, leaving}
use Rattle.board.specs.Questions.{has_departure}
use Rattle.board.specs.States.{State, day}

-- one for each of 96 lanes in each period
abbrev pub load_count : State → ℕ
load_count s = 96 * suc s.grid.horizon

abbrev pub place_of : State → ℕ → ℕ → ℕ
place_of s l t = l * suc s.grid.horizon + t

-- the plan that such a list is
abbrev pub loads_of : State → List ℕ → ℕ → ℕ → ℕ
loads_of s xs l t = slice_index xs (place_of s l t)

-- the loads of a plan, and 0 where no departure is
abbrev pub departing : State → (ℕ → ℕ → ℕ) → ℕ → ℕ → ℕ
departing s plan l t = if has_departure s l t then plan l t else 0

abbrev pub Laid : State → (ℕ → ℕ → ℕ) → List ℕ → Type 0
Laid s plan xs = (l t : ℕ) → l < 96 → t ≤ s.grid.horizon → loads_of s xs l t ≡ departing s plan l t

-- A plan still flows, whatever was taken off: a yard that is neither origin nor depot sends on just what arrives, a depot at most that.
abbrev pub Flows : Timetable → (ℕ → ℕ → ℕ) → Type 0
Flows S p =
    ((y u : ℕ) → u ≤ S.horizon → y ≢ S.origin → is_depot S y ≡ false → arriving S p y u ≡ leaving S p y u)
    × ((y u : ℕ) → u ≤ S.horizon → is_depot S y ≡ true → leaving S p y u ≤ arriving S p y u)

-- where there is no departure, there is no load
abbrev pub Idle : State → (ℕ → ℕ → ℕ) → Type 0
Idle s p = (l t : ℕ) → l < 96 → t ≤ s.grid.horizon → has_departure s l t ≡ false → p l t ≡ 0

abbrev pub Kept : State → List ℕ → Type 0
Kept s xs = load_count s ≤ length xs → Flows (day s) (loads_of s xs) × Idle s (loads_of s xs)
