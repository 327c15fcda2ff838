-- Quotes: what a timetable can still bring to ranked depot places once all owed is delivered, and the cuts that show it.
use Rattle.std.specs.Prelude.{◌≡◌, ℕ, suc, ◌+◌, ◌-◌, ◌*◌, ◌<◌, ◌≤◌, Bool, true, false, not, ◌&&◌, List, length, ◌==◌, nat_le, nat_lt, slice_index, if◌then◌else◌}
use Rattle.flow.specs.Network.{total}
pub use Rattle.ranking.specs.Ranking.{Ranking}
use Rattle.timetable.specs.Plans.{Timetable, some_below, lane, depot, Feasible, delivered, Split}
use Rattle.timetable.specs.Live.{is_live, live_departure}

-- the sum over the depot places that pass a test on their ranks
abbrev pub over_places : Timetable → Ranking → (ℕ → Bool) → (ℕ → ℕ → ℕ) → ℕ
over_places S R pick g = total (length S.depots) (λ d. total (suc S.horizon) (λ u. if pick (R.rank d u) then g d u else 0))

-- the further pallets for the rank r, and for all ranks below k
abbrev pub further : Timetable → Ranking → (ℕ → ℕ → ℕ) → (ℕ → ℕ → ℕ) → ℕ → ℕ
further S R p q r = over_places S R (λ s. s == r) (λ d u. delivered S p d u - q d u)

abbrev pub ahead : Timetable → Ranking → (ℕ → ℕ → ℕ) → (ℕ → ℕ → ℕ) → ℕ → ℕ
ahead S R p q k = over_places S R (λ s. nat_lt s k) (λ d u. delivered S p d u - q d u)

-- A cut for k is a set of live places that holds every live origin place and no live depot place of rank below k.
pub record Cut (S : Timetable) (R : Ranking) (k : ℕ) (X : ℕ → ℕ → Bool) : Type 0 where
  pub live : (y t : ℕ) → X y t ≡ true → is_live S y t ≡ true
  pub origin : (t : ℕ) → is_live S S.origin t ≡ true → X S.origin t ≡ true
  pub apart : (d t : ℕ) → d < length S.depots → t ≤ S.horizon → R.rank d t < k → X (depot S d) t ≡ false

-- the departure of the lane l in the period t is live and leads out of X
abbrev pub leads_out : Timetable → (ℕ → ℕ → Bool) → ℕ → ℕ → Bool
leads_out S X l t = live_departure S l t && (X (lane S l).from t && not (X (lane S l).to (t + (lane S l).transit)))

-- the capacity of all live departures that lead out of X
abbrev pub outward : Timetable → (ℕ → ℕ → Bool) → ℕ
outward S X = total (length S.lanes) (λ l. total (suc S.horizon) (λ t. if leads_out S X l t then S.capacity l t else 0))

-- the pallets owed at every depot with a place in X
abbrev pub owed_in : Timetable → (ℕ → ℕ) → (ℕ → ℕ → Bool) → ℕ
owed_in S owed X = total (length S.depots) (λ d. if some_below (suc S.horizon) (X (depot S d)) then owed d else 0)

-- the width of a cut
abbrev pub width : Timetable → (ℕ → ℕ) → (ℕ → ℕ → Bool) → ℕ
width S owed X = outward S X + owed_in S owed X

abbrev pub all_owed : Timetable → (ℕ → ℕ) → ℕ
all_owed S owed = total (length S.depots) owed

-- The mark of a place is the number of k, from 0 on, whose cut holds it: so the cut for k is the places whose mark is above k.
-- The marks of the 32 yards stand at yard × (horizon + 1) + period.
abbrev pub marked : Timetable → List ℕ → ℕ → ℕ → ℕ → Bool
marked S marks k y t = nat_lt y 32 && (nat_le t S.horizon && nat_lt k (slice_index marks (y * suc S.horizon + t)))

-- The cut is full: as wide as all owed and the first k figures together. It lies inside every cut for k of its width.
pub record SmallestFull (S : Timetable) (owed : ℕ → ℕ) (R : Ranking) (k : ℕ) (figures : ℕ → ℕ) (X : ℕ → ℕ → Bool) : Type 0 where
  pub cut : Cut S R k X
  pub full : width S owed X ≡ all_owed S owed + total k figures
  pub inside : (Y : ℕ → ℕ → Bool) → Cut S R k Y → width S owed Y ≡ width S owed X → (y t : ℕ) → X y t ≡ true → Y y t ≡ true

-- One feasible plan that delivers all owed reaches all figures together, and none brings more to the ranks below k together, for any k.
pub record Best (S : Timetable) (owed : ℕ → ℕ) (R : Ranking) (figures : ℕ → ℕ) : Type 0 where
  pub plan : ℕ → ℕ → ℕ
  pub split : ℕ → ℕ → ℕ
  pub feasible : Feasible S plan
  pub serves : Split S owed plan split
  pub reaches : (r : ℕ) → r < R.ranks → further S R plan split r ≡ figures r
  pub most : (k : ℕ) → k ≤ R.ranks → (p q : ℕ → ℕ → ℕ) → Feasible S p → Split S owed p q → ahead S R p q k ≤ total k figures

-- A quote is right: its figures are best, and its marks are for each k the smallest full cut. A mark is a number of k from 0 to
-- K, the number of ranks, so it is at most K + 1.
pub record Right (S : Timetable) (owed : ℕ → ℕ) (R : Ranking) (figures marks : List ℕ) : Type 0 where
  pub best : Best S owed R (slice_index figures)
  pub cuts : (k : ℕ) → k ≤ R.ranks → SmallestFull S owed R k (slice_index figures) (marked S marks k)
  pub low : (y t : ℕ) → y < 32 → t ≤ S.horizon → slice_index marks (y * suc S.horizon + t) ≤ suc R.ranks
