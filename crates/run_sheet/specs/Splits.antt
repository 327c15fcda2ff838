-- Runs that a plan is taken apart into.
use Rattle.std.specs.Prelude.{◌≡◌, ℕ, ◌+◌, ◌<◌, ◌≤◌, List, [], ◌∷◌, length}
use Rattle.timetable.specs.Plans.{Timetable}
use Rattle.board.specs.States.{State, day}
use Rattle.run_sheet.specs.declared.leg.Leg.{Leg}
use Rattle.run_sheet.specs.Calls.{loaded}
use Rattle.run_sheet.specs.Lists.{departing}
use Rattle.run_sheet.specs.Runs.{IsRun, carried}

abbrev pub EachRun : Timetable → List (List Leg) → Type 0
EachRun S [] = Unit {0}
EachRun S (legs ∷ runs) = IsRun S legs × EachRun S runs

-- what all runs carry on the lane l in the period t
abbrev pub carried_by_all : List (List Leg) → ℕ → ℕ → ℕ
carried_by_all [] l t = 0
carried_by_all (legs ∷ runs) l t = carried legs l t + carried_by_all runs l t

-- Each is a run, they add up to the plan at each departure, and there are at most as many as departures with a load.
pub record Splits (s : State) (plan : ℕ → ℕ → ℕ) (runs : List (List Leg)) : Type 0 where
  pub each : EachRun (day s) runs
  pub whole : (l t : ℕ) → l < 96 → t ≤ s.grid.horizon → carried_by_all runs l t ≡ departing s plan l t
  pub few : length runs ≤ loaded s (departing s plan)
