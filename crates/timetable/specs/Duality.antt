-- Cuts bound plans: what no plan can exceed, and what a cut that a plan fills tells.
use Rattle.std.specs.Prelude.{◌≡◌, ℕ, ◌+◌, ◌<◌, ◌≤◌, Bool, true, length}
use Rattle.timetable.specs.Plans.{Timetable, Sound, lane, depot, Feasible, delivered, Split}
use Rattle.timetable.specs.Live.{live_departure}
use Rattle.timetable.specs.Quotes.{Ranking, ahead, Cut, width, all_owed}

-- What a plan brings to the ranks below k, and all owed, is no more than a cut for k is wide.
abbrev pub PlanDuality : Type 0
PlanDuality =
    (S : Timetable) → Sound S → (owed : ℕ → ℕ) (R : Ranking) (k : ℕ) (p q : ℕ → ℕ → ℕ) → Feasible S p → Split S owed p q
    → (X : ℕ → ℕ → Bool) → Cut S R k X → ahead S R p q k + all_owed S owed ≤ width S owed X

-- Nothing more can leave X: its departures out are full and those into it empty, it holds every surplus that has no rank below k,
-- and if it holds a place of a depot, then each that gives a share to what is owed there.
pub record Settled (S : Timetable) (R : Ranking) (k : ℕ) (p q : ℕ → ℕ → ℕ) (X : ℕ → ℕ → Bool) : Type 0 where
  pub room : (l t : ℕ) → l < length S.lanes → live_departure S l t ≡ true → X (lane S l).from t ≡ true → p l t < S.capacity l t → X (lane S l).to (t + (lane S l).transit) ≡ true
  pub load : (l t : ℕ) → l < length S.lanes → live_departure S l t ≡ true → X (lane S l).to (t + (lane S l).transit) ≡ true → 0 < p l t → X (lane S l).from t ≡ true
  pub surplus : (d t : ℕ) → d < length S.depots → t ≤ S.horizon → k ≤ R.rank d t → q d t < delivered S p d t → X (depot S d) t ≡ true
  pub share : (d t u : ℕ) → d < length S.depots → t ≤ S.horizon → u ≤ S.horizon → X (depot S d) u ≡ true → 0 < q d t → X (depot S d) t ≡ true

-- A cut that is just as wide is settled.
abbrev pub TightSettled : Type 0
TightSettled =
    (S : Timetable) → Sound S → (owed : ℕ → ℕ) (R : Ranking) (k : ℕ) (p q : ℕ → ℕ → ℕ) → Feasible S p → Split S owed p q
    → (X : ℕ → ℕ → Bool) → Cut S R k X → width S owed X ≡ ahead S R p q k + all_owed S owed → Settled S R k p q X

-- A settled cut is just as wide.
abbrev pub SettledTight : Type 0
SettledTight =
    (S : Timetable) → Sound S → (owed : ℕ → ℕ) (R : Ranking) (k : ℕ) (p q : ℕ → ℕ → ℕ) → Feasible S p → Split S owed p q
    → (X : ℕ → ℕ → Bool) → Cut S R k X → Settled S R k p q X → width S owed X ≡ ahead S R p q k + all_owed S owed
