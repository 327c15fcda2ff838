-- When the calls on a board are turned away. The first rule whose condition holds decides; turned away, a call changes nothing.
use Rattle.std.specs.Prelude.{◌≡◌, ℕ, suc, ◌*◌, ◌<◌, ◌≤◌, false, ◌⊎◌, List, [], ◌∷◌, ◌++◌, length}
use Rattle.ranking.specs.Ranking.{Ranking}
use Rattle.timetable.specs.declared.Lane.{Lane}
use Rattle.timetable.specs.Plans.{Servable, is_depot}
use Rattle.refusals.specs.declared.Refusal.TheVariants.{BadYard, BadPallets, ListTooShort, NoneLeft, NoDepot, NotAsNeeded, NoPlan}
use Rattle.refusals.specs.Refusals.{Rule, rule}
use Rattle.roads.specs.Rules.{Outside, lane_rules, depot_rules, capacity_rules}
use Rattle.slips.specs.declared.moves.Act.{Act}
use Rattle.slips.specs.declared.moves.Move.TheVariants.{Refused}
use Rattle.slips.specs.declared.moves.SlipCall.TheVariants.{PickUp, Spend}
use Rattle.slips.specs.declared.slip.Slip.{Slip}
use Rattle.slips.specs.Holds.{state_of, standing_of}
use Rattle.slips.specs.Moves.{becomes}
use Rattle.slips.specs.Slips.{most_holds}
use Rattle.board.specs.States.{State, day, owed, capacity_set, held}

-- no feasible plan delivers all that is owed on the board
abbrev pub Short : State → Type 0
Short s = Servable (day s) (owed s) → ⊥

abbrev pub adding_rules : State → Lane → ℕ → List Rule
adding_rules s = lane_rules s.grid

abbrev pub naming_rules : State → ℕ → List Rule
naming_rules s = depot_rules s.grid

-- the board with the capacity set is the one that would be short
abbrev pub setting_rules : State → ℕ → ℕ → ℕ → List Rule
setting_rules s lane period capacity = capacity_rules s.grid lane period capacity ++ rule NoPlan (Short (capacity_set s lane period capacity)) ∷ []

-- the board with the hold is the one that would be short
abbrev pub holding_checks : State → ℕ → ℕ → List Rule
holding_checks s yard pallets =
    rule BadYard (31 < yard) ∷ rule BadPallets (Outside 1 9999 pallets) ∷ rule NoneLeft (most_holds ≤ length s.holds)
    ∷ rule NoDepot (is_depot (day s) yard ≡ false) ∷ []

abbrev pub holding_rules : State → ℕ → ℕ → List Rule
holding_rules s yard pallets = holding_checks s yard pallets ++ rule NoPlan (Short (held s yard pallets)) ∷ []

abbrev pub spending_rules : State → Slip → Act → List Rule
spending_rules s slip act = rule NotAsNeeded (becomes (Spend act) (standing_of s.holds slip) ≡ Refused) ∷ []

abbrev pub picking_rules : State → ℕ → List Rule
picking_rules s number = rule NotAsNeeded (becomes PickUp (state_of s.holds number) ≡ Refused) ∷ []

-- a quote has a figure for each rank, and a mark for each of the 32 yards in each period
abbrev pub mark_count : State → ℕ
mark_count s = 32 * suc s.grid.horizon

abbrev pub quoting_rules : State → Ranking → ℕ → ℕ → List Rule
quoting_rules s R figures marks = rule ListTooShort ((figures < R.ranks) ⊎ (marks < mark_count s)) ∷ []
