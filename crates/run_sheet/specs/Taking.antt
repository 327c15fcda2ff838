-- How a run is taken off.
use Rattle.std.specs.Prelude.{◌≡◌, ℕ, suc, ◌+◌, ◌<◌, ◌≤◌, List, [], ◌∷◌, map, length, take, drop}
use Rattle.board.specs.States.{State}
use Rattle.run_sheet.specs.declared.leg.Leg.{Leg}
use Rattle.run_sheet.specs.Lists.{load_count, loads_of}
use Rattle.run_sheet.specs.Runs.{carried}

-- Legs that leave one after another, from the period t on, each with a load of x or more.
abbrev pub Ready : State → (ℕ → ℕ → ℕ) → ℕ → ℕ → List Leg → Type 0
Ready s p x t [] = Unit {0}
Ready s p x t (leg ∷ legs) =
    (t ≤ leg.period) × (leg.period ≤ s.grid.horizon) × (leg.lane < 96) × (x ≤ p leg.lane leg.period) × Ready s p x (suc leg.period) legs

-- the same legs with x pallets
abbrev pub with_pallets : ℕ → List Leg → List Leg
with_pallets x = map (λ leg. record { lane = leg.lane; period = leg.period; pallets = x })

-- The loads fall by x along the legs and nowhere else, and the legs are written with x pallets, and nothing past them.
pub record Taken (s : State) (x : ℕ) (legs : List Leg) (xs xs' : List ℕ) (ls ls' : List Leg) (n : ℕ) : Type 0 where
  pub count : n ≡ length legs
  pub written : take n ls' ≡ with_pallets x legs
  pub unwritten : drop n ls' ≡ drop n ls
  pub fell : (l t : ℕ) → l < 96 → t ≤ s.grid.horizon → loads_of s xs' l t + carried (with_pallets x legs) l t ≡ loads_of s xs l t
  pub past : drop (load_count s) xs' ≡ drop (load_count s) xs
