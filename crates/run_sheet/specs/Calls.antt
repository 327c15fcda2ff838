-- What the calls on a run sheet do.
use Rattle.std.specs.Prelude.{◌≡◌, ℕ, suc, ◌+◌, ◌<◌, ◌≤◌, ◌⊎◌, List, [], ◌∷◌, length, take, drop, nat_lt, if◌then◌else◌, Some, None, Option, Ok, Err, Result}
use Rattle.flow.specs.Network.{total}
use Rattle.refusals.specs.declared.Refusal.{Refusal}
use Rattle.refusals.specs.declared.Refusal.TheVariants.{ListTooShort}
use Rattle.refusals.specs.Refusals.{Rule, rule, Decides}
use Rattle.board.specs.States.{State, day}
use Rattle.run_sheet.specs.declared.leg.Leg.{Leg}
use Rattle.run_sheet.specs.Lists.{load_count, loads_of, Laid}
use Rattle.run_sheet.specs.Runs.{IsRun, carried}

-- Laying writes the loads and nothing past them, or nothing where the list is too short.
pub record Lays (s : State) (plan : ℕ → ℕ → ℕ) (xs xs' : List ℕ) : Type 0 where
  pub long : length xs' ≡ length xs
  pub laid : load_count s ≤ length xs → Laid s plan xs'
  pub past : drop (load_count s) xs' ≡ drop (load_count s) xs
  pub short : length xs < load_count s → xs' ≡ xs

-- how many departures have a load
abbrev pub loaded : State → (ℕ → ℕ → ℕ) → ℕ
loaded s p = total 96 (λ l. total (suc s.grid.horizon) (λ t. if nat_lt 0 (p l t) then 1 else 0))

-- A run is taken off: its legs are written and nothing past them, and the loads fall by its pallets along its legs and nowhere
-- else. So fewer departures have a load. Which run it is, is free.
pub record TakesRun (s : State) (xs xs' : List ℕ) (ls ls' : List Leg) (n : ℕ) : Type 0 where
  pub room : n ≤ length ls
  pub run : IsRun (day s) (take n ls')
  pub unwritten : drop n ls' ≡ drop n ls
  pub long : length xs' ≡ length xs
  pub fell : (l t : ℕ) → l < 96 → t ≤ s.grid.horizon → loads_of s xs' l t + carried (take n ls') l t ≡ loads_of s xs l t
  pub past : drop (load_count s) xs' ≡ drop (load_count s) xs
  pub fewer : loaded s (loads_of s xs') < loaded s (loads_of s xs)

abbrev pub NoneLoaded : State → List ℕ → Type 0
NoneLoaded s xs = (l t : ℕ) → l < 96 → t ≤ s.grid.horizon → loads_of s xs l t ≡ 0

abbrev pub taking_rules : State → ℕ → ℕ → List Rule
taking_rules s loads legs = rule ListTooShort ((loads < load_count s) ⊎ (legs < s.grid.horizon)) ∷ []

abbrev pub Takes : State → List ℕ → List ℕ → List Leg → List Leg → Result (Option ℕ) Refusal → Type 0
Takes s xs xs' ls ls' (Ok (Some n)) = Decides (taking_rules s (length xs) (length ls)) None × TakesRun s xs xs' ls ls' n
Takes s xs xs' ls ls' (Ok None) = Decides (taking_rules s (length xs) (length ls)) None × NoneLoaded s xs × (xs' ≡ xs) × (ls' ≡ ls)
Takes s xs xs' ls ls' (Err why) = Decides (taking_rules s (length xs) (length ls)) (Some why) × (xs' ≡ xs) × (ls' ≡ ls)
