-- Runs of a plan.
use Rattle.std.specs.Prelude.{◌≡◌, ℕ, ◌+◌, ◌<◌, ◌≤◌, true, ◌&&◌, List, [], ◌∷◌, length, ◌==◌, if◌then◌else◌}
use Rattle.timetable.specs.Plans.{Timetable, lane, departs, is_depot}
use Rattle.run_sheet.specs.declared.leg.Leg.{Leg}

-- Legs lead from the yard y in the period t to another place: the first leaves y in t, and each other where and when the one
-- before arrives.
abbrev pub Goes : Timetable → ℕ → ℕ → List Leg → ℕ → ℕ → Type 0
Goes S y t [] y' t' = (y ≡ y') × (t ≡ t')
Goes S y t (leg ∷ legs) y' t' =
    (leg.lane < length S.lanes) × ((lane S leg.lane).from ≡ y) × (leg.period ≡ t) × (departs S leg.lane leg.period ≡ true)
    × Goes S (lane S leg.lane).to (leg.period + (lane S leg.lane).transit) legs y' t'

-- each leg has x pallets
abbrev pub Even : ℕ → List Leg → Type 0
Even x [] = Unit {0}
Even x (leg ∷ legs) = (leg.pallets ≡ x) × Even x legs

-- A run leads from the origin to a depot, with the same pallets on each leg, at least 1.
pub record IsRun (S : Timetable) (legs : List Leg) : Type 0 where
  pub pallets : ℕ
  pub some : 1 ≤ pallets
  pub even : Even pallets legs
  pub start : ℕ
  pub depot : ℕ
  pub end : ℕ
  pub goes : Goes S S.origin start legs depot end
  pub delivered : is_depot S depot ≡ true
  pub legs_some : 0 < length legs

-- what legs carry on the lane l in the period t
abbrev pub carried : List Leg → ℕ → ℕ → ℕ
carried [] l t = 0
carried (leg ∷ legs) l t = (if leg.lane == l && leg.period == t then leg.pallets else 0) + carried legs l t
