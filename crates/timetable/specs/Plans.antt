-- Timetables and plans. A place is a yard with a period, from 0 to the horizon.
use Rattle.std.specs.Prelude.{◌≡◌, ℕ, zero, suc, ◌+◌, ◌-◌, ◌<◌, ◌≤◌, Bool, true, false, ◌&&◌, ◌||◌, ◌≢◌, List, length, ◌==◌, nat_le, slice_index, slice_index_or, if◌then◌else◌}
pub use Rattle.timetable.specs.declared.Lane.{Lane}
use Rattle.flow.specs.Network.{total}

-- the test passes at some number below n
abbrev pub some_below : ℕ → (ℕ → Bool) → Bool
some_below zero p = false
some_below (suc n) p = some_below n p || p n

-- The origin sends pallets over the lanes to the depots, which are yards in an order. Lanes and depots are counted from 0.
-- `capacity l t` bounds what the lane l takes at its departure in the period t.
pub record Timetable : Type 0 where
  pub horizon : ℕ
  pub origin : ℕ
  pub lanes : List Lane
  pub capacity : ℕ → ℕ → ℕ
  pub depots : List ℕ

abbrev pub lane : Timetable → ℕ → Lane
lane S l = slice_index_or S.lanes l (record { from = 0; to = 0; transit = 0 })

abbrev pub depot : Timetable → ℕ → ℕ
depot S d = slice_index S.depots d

-- The bounds within which timetables are kept: yards are the numbers 0 to 31. No lane leads into the origin or into the yard
-- that it leaves, no depot is the origin, and none is named twice.
pub record Sound (S : Timetable) : Type 0 where
  pub periods : (1 ≤ S.horizon) × (S.horizon ≤ 47)
  pub origin : S.origin < 32
  pub few_lanes : length S.lanes ≤ 96
  pub ends : (l : ℕ) → l < length S.lanes → ((lane S l).from < 32) × ((lane S l).to < 32)
  pub outward : (l : ℕ) → l < length S.lanes → ((lane S l).to ≢ S.origin) × ((lane S l).to ≢ (lane S l).from)
  pub transits : (l : ℕ) → l < length S.lanes → (1 ≤ (lane S l).transit) × ((lane S l).transit ≤ 47)
  pub bounded : (l t : ℕ) → S.capacity l t ≤ 9999
  pub few_depots : length S.depots ≤ 16
  pub yards : (d : ℕ) → d < length S.depots → (depot S d < 32) × (depot S d ≢ S.origin)
  pub apart : (d e : ℕ) → d < length S.depots → e < length S.depots → depot S d ≡ depot S e → d ≡ e

-- whether the yard y is a depot
abbrev pub is_depot : Timetable → ℕ → Bool
is_depot S y = some_below (length S.depots) (λ d. depot S d == y)

-- whether the lane l departs in the period t: it arrives by the horizon
abbrev pub departs : Timetable → ℕ → ℕ → Bool
departs S l t = nat_le (t + (lane S l).transit) S.horizon

-- A plan gives each departure a load: `p l t` pallets on the lane l in the period t.
-- What arrives at the place y@u, and what leaves it:
abbrev pub arriving : Timetable → (ℕ → ℕ → ℕ) → ℕ → ℕ → ℕ
arriving S p y u = total (length S.lanes) (λ l. if (lane S l).to == y && nat_le (lane S l).transit u then p l (u - (lane S l).transit) else 0)

abbrev pub leaving : Timetable → (ℕ → ℕ → ℕ) → ℕ → ℕ → ℕ
leaving S p y u = total (length S.lanes) (λ l. if (lane S l).from == y && departs S l u then p l u else 0)

-- A plan is feasible when no load exceeds its capacity, a yard that is neither origin nor depot sends on in each
-- period just what arrives then, and a depot sends on at most what arrives then. So no pallet waits in a yard, what a depot
-- keeps is delivered there, and the origin sends as much as its departures take.
pub record Feasible (S : Timetable) (p : ℕ → ℕ → ℕ) : Type 0 where
  pub fits : (l t : ℕ) → l < length S.lanes → departs S l t ≡ true → p l t ≤ S.capacity l t
  pub passes : (y u : ℕ) → u ≤ S.horizon → y ≢ S.origin → is_depot S y ≡ false → arriving S p y u ≡ leaving S p y u
  pub keeps : (y u : ℕ) → u ≤ S.horizon → is_depot S y ≡ true → leaving S p y u ≤ arriving S p y u

-- what the plan delivers at the depot d in the period u: what arrives and does not leave again
abbrev pub delivered : Timetable → (ℕ → ℕ → ℕ) → ℕ → ℕ → ℕ
delivered S p d u = arriving S p (depot S d) u - leaving S p (depot S d) u

-- The plan delivers at each depot just what is owed there, over all periods.
abbrev pub Delivers : Timetable → (ℕ → ℕ) → (ℕ → ℕ → ℕ) → Type 0
Delivers S owed p = (d : ℕ) → d < length S.depots → total (suc S.horizon) (delivered S p d) ≡ owed d

-- A split gives `q d u` of what the plan delivers at d in u to what is owed there, in all just that; the rest is further.
pub record Split (S : Timetable) (owed : ℕ → ℕ) (p q : ℕ → ℕ → ℕ) : Type 0 where
  pub part : (d u : ℕ) → d < length S.depots → u ≤ S.horizon → q d u ≤ delivered S p d u
  pub whole : (d : ℕ) → d < length S.depots → total (suc S.horizon) (q d) ≡ owed d

-- some feasible plan delivers all owed, at least that to each depot
abbrev pub Servable : Timetable → (ℕ → ℕ) → Type 0
Servable S owed = (p : ℕ → ℕ → ℕ) × (q : ℕ → ℕ → ℕ) × Feasible S p × Split S owed p q
