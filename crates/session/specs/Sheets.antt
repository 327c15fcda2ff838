-- The runs that a run sheet of a board tells.
use Rattle.std.specs.Prelude.{ℕ, List}
use Rattle.board.specs.States.{State, Stands}
use Rattle.run_sheet.specs.declared.leg.Leg.{Leg}
use Rattle.run_sheet.specs.Splits.{Splits}

-- They add up to the standing plan. Which plan stands, and which runs it is taken apart into, is free.
pub record RunsOf (s : State) (runs : List (List Leg)) : Type 0 where
  pub plan : ℕ → ℕ → ℕ
  pub stands : Stands s plan
  pub splits : Splits s plan runs
