-- What each call on a board answers, and the board after it.
use Rattle.std.specs.Prelude.{◌≡◌, ℕ, ◌<◌, List, length, drop, Some, None, Ok, Err, Result}
use Rattle.ranking.specs.Ranking.{Ranking}
use Rattle.timetable.specs.declared.Lane.{Lane}
use Rattle.timetable.specs.Quotes.{Right}
use Rattle.refusals.specs.declared.Refusal.{Refusal}
use Rattle.refusals.specs.declared.Refusal.TheVariants.{NotAsNeeded}
use Rattle.refusals.specs.Refusals.{Rule, Decides}
use Rattle.roads.specs.Rules.{opening_rules}
use Rattle.slips.specs.declared.moves.Act.{Act}
use Rattle.slips.specs.declared.moves.SlipCall.TheVariants.{PickUp, Spend}
use Rattle.slips.specs.declared.refusal.Returned.{Returned}
use Rattle.slips.specs.declared.refusal.SlipRefusal.TheVariants as slip_refusal
use Rattle.slips.specs.declared.slip.Slip.{Slip}
use Rattle.slips.specs.Holds.{state_of, standing_of}
use Rattle.slips.specs.Moves.{becomes}
use Rattle.board.specs.States.{State, day, owed, fresh, lane_added, depot_named, capacity_set, held, moved, next_slip}
use Rattle.board.specs.Rules.{adding_rules, naming_rules, setting_rules, holding_rules, spending_rules, picking_rules, quoting_rules, mark_count}

-- Rules are tried, and nothing else is done.
abbrev pub Checked : List Rule → Result Unit Refusal → Type 0
Checked rules (Ok x) = Decides rules None
Checked rules (Err why) = Decides rules (Some why)

-- Opening starts afresh.
abbrev pub Opens : State → ℕ → ℕ → Result Unit Refusal → State → Type 0
Opens s horizon origin (Ok x) s' = Decides (opening_rules horizon origin) None × (s' ≡ fresh horizon origin)
Opens s horizon origin (Err why) s' = Decides (opening_rules horizon origin) (Some why) × (s' ≡ s)

-- A lane is added, and its number given.
abbrev pub Adds : State → Lane → ℕ → Result ℕ Refusal → State → Type 0
Adds s lane capacity (Ok n) s' = Decides (adding_rules s lane capacity) None × (n ≡ length s.grid.lanes) × (s' ≡ lane_added s lane capacity)
Adds s lane capacity (Err why) s' = Decides (adding_rules s lane capacity) (Some why) × (s' ≡ s)

-- Of the standing plan: the new lane carries nothing, and the lanes before it what they did.
abbrev pub Unladen : (ℕ → ℕ → ℕ) → (ℕ → ℕ → ℕ) → ℕ → Type 0
Unladen before after n = ((l t : ℕ) → l < n → t < 48 → after l t ≡ before l t) × ((t : ℕ) → t < 48 → after n t ≡ 0)

-- A depot is named, and its place in their order given.
abbrev pub Names : State → ℕ → Result ℕ Refusal → State → Type 0
Names s yard (Ok n) s' = Decides (naming_rules s yard) None × (n ≡ length s.grid.depots) × (s' ≡ depot_named s yard)
Names s yard (Err why) s' = Decides (naming_rules s yard) (Some why) × (s' ≡ s)

-- The capacity of a departure is set.
abbrev pub Sets : State → ℕ → ℕ → ℕ → Result Unit Refusal → State → Type 0
Sets s lane period capacity (Ok x) s' = Decides (setting_rules s lane period capacity) None × (s' ≡ capacity_set s lane period capacity)
Sets s lane period capacity (Err why) s' = Decides (setting_rules s lane period capacity) (Some why) × (s' ≡ s)

-- A hold is accepted, and its slip given.
abbrev pub Holds : State → ℕ → ℕ → Result Slip Refusal → State → Type 0
Holds s yard pallets (Ok slip) s' = Decides (holding_rules s yard pallets) None × (slip ≡ next_slip s yard pallets) × (s' ≡ held s yard pallets)
Holds s yard pallets (Err why) s' = Decides (holding_rules s yard pallets) (Some why) × (s' ≡ s)

-- A slip is spent. Turned away, it comes back.
abbrev pub Spends : State → Slip → Act → Result Unit Returned → State → Type 0
Spends s slip act (Ok x) s' = Decides (spending_rules s slip act) None × (s' ≡ moved s slip (becomes (Spend act) (standing_of s.holds slip)))
Spends s slip act (Err back) s' =
    Decides (spending_rules s slip act) (Some NotAsNeeded) × (back ≡ record { why = slip_refusal.NotAsNeeded; slip = slip }) × (s' ≡ s)

-- The slip of a number is picked up: it has the depot and the pallets of the hold of that number.
abbrev pub PicksUp : State → ℕ → Result Slip Refusal → State → Type 0
PicksUp s number (Ok slip) s' =
    Decides (picking_rules s number) None × (slip.number ≡ number) × (standing_of s.holds slip ≡ state_of s.holds number)
    × (s' ≡ moved s slip (becomes PickUp (state_of s.holds number)))
PicksUp s number (Err why) s' = Decides (picking_rules s number) (Some why) × (s' ≡ s)

-- A right quote is written, and nothing past the figures of the ranks and the marks of the places. Turned away, the lists are as
-- they were. Either way the board is.
abbrev pub Quotes : State → Ranking → List ℕ → List ℕ → List ℕ → List ℕ → Result Unit Refusal → State → Type 0
Quotes s R figures figures' marks marks' (Ok x) s' =
    Decides (quoting_rules s R (length figures) (length marks)) None × Right (day s) (owed s) R figures' marks'
    × (drop R.ranks figures' ≡ drop R.ranks figures) × (drop (mark_count s) marks' ≡ drop (mark_count s) marks) × (s' ≡ s)
Quotes s R figures figures' marks marks' (Err why) s' =
    Decides (quoting_rules s R (length figures) (length marks)) (Some why) × (figures' ≡ figures) × (marks' ≡ marks) × (s' ≡ s)
