-- What a ranking means, and the two that are supplied. (That these keep to the law is proved here, since the proof of a
-- ghost member can be cited from specs/ alone.)
use Rattle.std.specs.Prelude.{ℕ, ◌+◌, ◌≤◌, ◌<◌}
use Rattle.std.proofs.Common.{arith}

-- A ranking has a number of ranks, and gives a rank to each pair of a depot, by its place in their order, and a period.
pub record Ranking : Type 0 where
  pub ranks : ℕ
  pub rank : ℕ → ℕ → ℕ

-- The law of rankings, for so many depots and that horizon: at most 48 ranks, and each rank below their number.
pub record Lawful (depots horizon : ℕ) (R : Ranking) : Type 0 where
  pub few : R.ranks ≤ 48
  pub low : (d t : ℕ) → d < depots → t ≤ horizon → R.rank d t < R.ranks

-- depot order: as many ranks as depots, and the rank is the place in their order
abbrev pub by_depot : ℕ → Ranking
by_depot depots = record { ranks = depots; rank = λ d t. d }

pub by_depot_lawful : (depots horizon : ℕ) → depots ≤ 16 → horizon ≤ 47 → Lawful depots horizon (by_depot depots)
by_depot_lawful depots horizon l m = record { few = omega arith; low = λ d t a b. a }

-- period order: as many ranks as periods from 0 to the horizon, and the rank is the period
abbrev pub by_period : ℕ → Ranking
by_period horizon = record { ranks = horizon + 1; rank = λ d t. t }

pub by_period_lawful : (depots horizon : ℕ) → depots ≤ 16 → horizon ≤ 47 → Lawful depots horizon (by_period horizon)
by_period_lawful depots horizon l m = record { few = omega arith; low = λ d t a b. omega arith }
