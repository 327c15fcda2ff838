-- What times of yards say: a list has for each yard a period, or none.
use Rattle.std.specs.Prelude.{◌≡◌, ℕ, ◌+◌, ◌-◌, ◌<◌, ◌≤◌, Bool, false, ◌&&◌, List, ◌==◌, nat_le, slice_index_or, Option, Some, None}
use Rattle.timetable.specs.declared.Lane.{Lane}
use Rattle.timetable.specs.Plans.{Timetable}
use Rattle.timetable.specs.Live.{comes, goes}

-- whether there is a time, and it is t or earlier
abbrev pub by : Option ℕ → ℕ → Bool
by None t = false
by (Some e) t = nat_le e t

-- whether there is a time, and it is t or later
abbrev pub until : Option ℕ → ℕ → Bool
until None t = false
until (Some e) t = nat_le t e

-- the time of a yard, none past the list
abbrev pub time_of : List (Option ℕ) → ℕ → Option ℕ
time_of times y = slice_index_or times y None

abbrev pub lane_of : List Lane → ℕ → Lane
lane_of lanes l = slice_index_or lanes l (record { from = 0; to = 0; transit = 0 })

-- whether the lane l brings to y by t a pallet that is at its start by its time
abbrev pub brings : List Lane → List (Option ℕ) → ℕ → ℕ → ℕ → Bool
brings lanes times y t l = (lane_of lanes l).to == y && (nat_le (lane_of lanes l).transit t && by (time_of times (lane_of lanes l).from) (t - (lane_of lanes l).transit))

-- whether the lane l takes a pallet from y at t to its end within its time
abbrev pub takes : List Lane → List (Option ℕ) → ℕ → ℕ → ℕ → Bool
takes lanes times y t l = (lane_of lanes l).from == y && until (time_of times (lane_of lanes l).to) (t + (lane_of lanes l).transit)

-- By at most n lanes a pallet from the origin can be at y by t exactly when y has a time of t or earlier: up to the horizon.
abbrev pub ComeFrom : Timetable → ℕ → List (Option ℕ) → Type 0
ComeFrom S n times = (y t : ℕ) → y < 32 → t ≤ S.horizon → comes S n y t ≡ by (time_of times y) t

-- By at most n lanes a pallet at y in t can be at a depot by the horizon exactly when y has a time of t or later.
abbrev pub GoUntil : Timetable → ℕ → List (Option ℕ) → Type 0
GoUntil S n times = (y t : ℕ) → y < 32 → goes S n y t ≡ until (time_of times y) t
