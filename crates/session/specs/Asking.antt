-- What records ask of a board by more than one call, or with lists of their own.
use Rattle.std.specs.Prelude.{◌≡◌, ℕ, List, length, Ok, Err, Result}
use Rattle.ranking.specs.Ranking.{Ranking}
use Rattle.timetable.specs.Quotes.{Right}
use Rattle.refusals.specs.declared.Refusal.{Refusal}
use Rattle.slips.specs.declared.moves.Act.{Act}
use Rattle.slips.specs.declared.moves.Act.TheVariants.{Pin}
use Rattle.slips.specs.declared.slip.Slip.{Slip}
use Rattle.board.specs.States.{State, day, owed}
use Rattle.board.specs.Calls.{Holds, PicksUp, Spends}

-- Pallets are held, and the slip is pinned up at once; its number is told. Only the hold can be turned away.
unfoldable pub HoldsPinned : State → ℕ → ℕ → Result ℕ Refusal → State → Type 0
HoldsPinned s yard pallets (Ok n) s' =
    (slip : Slip) × (between : State) × Holds s yard pallets (Ok slip) between × Spends between slip Pin (Ok tt) s' × (n ≡ slip.number)
HoldsPinned s yard pallets (Err why) s' = Holds s yard pallets (Err why) s'

-- The slip of a number is picked up, and spent at once. Only the pick-up can be turned away.
unfoldable pub SpendsPicked : State → ℕ → Act → Result Unit Refusal → State → Type 0
SpendsPicked s number act (Ok x) s' = (slip : Slip) × (between : State) × PicksUp s number (Ok slip) between × Spends between slip act (Ok tt) s'
SpendsPicked s number act (Err why) s' = PicksUp s number (Err why) s'

-- These are the figures of a right quote, one for each rank.
pub record QuotesFigures (s : State) (R : Ranking) (told : List ℕ) : Type 0 where
  pub each : length told ≡ R.ranks
  pub marks : List ℕ
  pub right : Right (day s) (owed s) R told marks
