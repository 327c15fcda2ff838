-- What a board tells of a departure.
use Rattle.std.specs.Prelude.{ℕ, Bool, ◌&&◌, length, Some, None, Option, nat_lt, if◌then◌else◌}
use Rattle.timetable.specs.Plans.{departs}
use Rattle.board.specs.States.{State, day}

-- there is such a lane, and it departs in the period
abbrev pub has_departure : State → ℕ → ℕ → Bool
has_departure s lane period = nat_lt lane (length s.grid.lanes) && departs (day s) lane period

abbrev pub capacity_told : State → ℕ → ℕ → Option ℕ
capacity_told s lane period = if has_departure s lane period then Some ((day s).capacity lane period) else None

-- its load in a plan
abbrev pub load_told : State → (ℕ → ℕ → ℕ) → ℕ → ℕ → Option ℕ
load_told s plan lane period = if has_departure s lane period then Some (plan lane period) else None
