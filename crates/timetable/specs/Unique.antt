-- A right quote is the only one, up to what is no figure and no mark of a place.
use Rattle.std.specs.Prelude.{◌≡◌, ℕ, suc, ◌+◌, ◌*◌, ◌<◌, ◌≤◌, true, false, List, slice_index}
use Rattle.timetable.specs.Plans.{Timetable}
use Rattle.timetable.specs.Live.{is_live}
use Rattle.timetable.specs.Quotes.{Ranking, marked, Best, Right}

-- Best figures are the only ones.
abbrev pub FiguresUnique : Type 0
FiguresUnique = (S : Timetable) (owed : ℕ → ℕ) (R : Ranking) (figures others : ℕ → ℕ) → Best S owed R figures → Best S owed R others → (r : ℕ) → r < R.ranks → figures r ≡ others r

-- Two right quotes have the same figure for each rank, mark the same places for each k, and have the same mark at each place.
pub record Agree (S : Timetable) (R : Ranking) (figures₁ marks₁ figures₂ marks₂ : List ℕ) : Type 0 where
  pub shares : (r : ℕ) → r < R.ranks → slice_index figures₁ r ≡ slice_index figures₂ r
  pub places : (k : ℕ) → k ≤ R.ranks → (y t : ℕ) → marked S marks₁ k y t ≡ marked S marks₂ k y t
  pub marks : (y t : ℕ) → y < 32 → t ≤ S.horizon → slice_index marks₁ (y * suc S.horizon + t) ≡ slice_index marks₂ (y * suc S.horizon + t)

abbrev pub RightUnique : Type 0
RightUnique =
    (S : Timetable) (owed : ℕ → ℕ) (R : Ranking) (figures marks others signs : List ℕ)
    → Right S owed R figures marks → Right S owed R others signs → Agree S R figures marks others signs

-- The cuts that marks give shrink as k grows.
abbrev pub MarksNested : Type 0
MarksNested = (S : Timetable) (marks : List ℕ) (j k y t : ℕ) → j ≤ k → marked S marks k y t ≡ true → marked S marks j y t ≡ true

-- In a right quote the mark of a place that is not live is 0.
abbrev pub MarksLive : Type 0
MarksLive =
    (S : Timetable) (owed : ℕ → ℕ) (R : Ranking) (figures marks : List ℕ) → Right S owed R figures marks
    → (y t : ℕ) → y < 32 → t ≤ S.horizon → is_live S y t ≡ false → slice_index marks (y * suc S.horizon + t) ≡ 0
