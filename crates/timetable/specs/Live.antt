-- Live places: those that a pallet can reach in time, and from which it can still reach a depot.
use Rattle.std.specs.Prelude.{◌≡◌, ℕ, zero, suc, ◌+◌, ◌-◌, ◌<◌, ◌≤◌, Bool, true, false, ◌&&◌, ◌||◌, length, ◌==◌, nat_le}
use Rattle.timetable.specs.Plans.{Timetable, Sound, some_below, lane, depot, is_depot, departs, Feasible}

-- lanes lead from the yard i to the yard j in n periods in all
pub data Way (S : Timetable) : ℕ → ℕ → ℕ → Type 0 where
  there : {i : ℕ} → Way S i i 0
  on : {j n : ℕ} (l : ℕ) → l < length S.lanes → Way S (lane S l).to j n → Way S (lane S l).from j ((lane S l).transit + n)

-- the distance: the smallest of these sums
pub record Distance (S : Timetable) (i j n : ℕ) : Type 0 where
  pub way : Way S i j n
  pub least : (m : ℕ) → Way S i j m → n ≤ m

-- A place is live when its period is at least the distance from the origin, and the distance to some depot ends by the horizon.
pub record Live (S : Timetable) (y t : ℕ) : Type 0 where
  pub come : (n : ℕ) × (Distance S S.origin y n) × (n ≤ t)
  pub go : (d : ℕ) × (n : ℕ) × (d < length S.depots) × (Distance S y (depot S d) n) × (t + n ≤ S.horizon)

-- The same as a test. `comes S n y t`: by at most n lanes a pallet from the origin can be at y by the period t.
abbrev pub comes : Timetable → ℕ → ℕ → ℕ → Bool
comes S zero y t = y == S.origin
comes S (suc n) y t = y == S.origin || some_below (length S.lanes) (λ l. (lane S l).to == y && (nat_le (lane S l).transit t && comes S n (lane S l).from (t - (lane S l).transit)))

-- y@t is a place of a depot, up to the horizon
abbrev pub is_depot_place : Timetable → ℕ → ℕ → Bool
is_depot_place S y t = nat_le t S.horizon && is_depot S y

-- `goes S n y t`: by at most n lanes a pallet at y in the period t can be at a depot by the horizon
abbrev pub goes : Timetable → ℕ → ℕ → ℕ → Bool
goes S zero y t = is_depot_place S y t
goes S (suc n) y t = is_depot_place S y t || some_below (length S.lanes) (λ l. (lane S l).from == y && goes S n (lane S l).to (t + (lane S l).transit))

abbrev pub is_live : Timetable → ℕ → ℕ → Bool
is_live S y t = comes S S.horizon y t && goes S S.horizon y t

-- a departure is live when both its places are
abbrev pub live_departure : Timetable → ℕ → ℕ → Bool
live_departure S l t = departs S l t && (is_live S (lane S l).from t && is_live S (lane S l).to (t + (lane S l).transit))

-- The test passes at just the live places.
abbrev pub TestSaysLive : Type 0
TestSaysLive = (S : Timetable) → Sound S → (y t : ℕ) → (is_live S y t ≡ true → Live S y t) × (Live S y t → is_live S y t ≡ true)

-- Every feasible plan has load 0 on all departures that are not live.
abbrev pub OnlyLiveLoaded : Type 0
OnlyLiveLoaded = (S : Timetable) → Sound S → (p : ℕ → ℕ → ℕ) → Feasible S p → (l t : ℕ) → l < length S.lanes → departs S l t ≡ true → live_departure S l t ≡ false → p l t ≡ 0
