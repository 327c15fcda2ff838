-- How a run is found, leg by leg.
use Rattle.std.specs.Prelude.{◌≡◌, ℕ, ◌<◌, ◌≤◌, ◌⊎◌, List, [], ◌∷◌, length}
use Rattle.timetable.specs.Plans.{lane}
use Rattle.board.specs.States.{State, day}
use Rattle.run_sheet.specs.declared.leg.Leg.{Leg}
use Rattle.run_sheet.specs.Runs.{Goes}

-- the lane carries pallets from the yard y in the period t
abbrev pub Leaves : State → (ℕ → ℕ → ℕ) → ℕ → ℕ → ℕ → Type 0
Leaves s p y t l = (l < length s.grid.lanes) × ((lane (day s) l).from ≡ y) × (0 < p l t)

abbrev pub LeavesNone : State → (ℕ → ℕ → ℕ) → ℕ → ℕ → Type 0
LeavesNone s p y t = (l : ℕ) → Leaves s p y t l → ⊥

abbrev pub StartsAt : State → (ℕ → ℕ → ℕ) → ℕ → Type 0
StartsAt s p t = (t ≤ s.grid.horizon) × (l : ℕ) × Leaves s p s.grid.origin t l

-- each leg's departure has x pallets or more, and one has just x
abbrev pub Bears : (ℕ → ℕ → ℕ) → ℕ → List Leg → Type 0
Bears p x [] = Unit {0}
Bears p x (leg ∷ legs) = (x ≤ p leg.lane leg.period) × Bears p x legs

abbrev pub Least : (ℕ → ℕ → ℕ) → ℕ → List Leg → Type 0
Least p x [] = ⊥
Least p x (leg ∷ legs) = (p leg.lane leg.period ≡ x) ⊎ Least p x legs

-- Legs from the origin to a place from which no pallets go on, and the smallest load on the way.
pub record Found (s : State) (p : ℕ → ℕ → ℕ) (start : ℕ) (legs : List Leg) (x : ℕ) : Type 0 where
  pub yard : ℕ
  pub end : ℕ
  pub goes : Goes (day s) s.grid.origin start legs yard end
  pub bears : Bears p x legs
  pub least : Least p x legs
  pub some : 0 < x
  pub within : end ≤ s.grid.horizon
  pub stops : LeavesNone s p yard end
  pub few : length legs ≤ s.grid.horizon
