-- When the calls on roads are turned away, and what they do where they are not.
use Rattle.std.specs.Prelude.{◌≡◌, ℕ, ◌<◌, ◌≤◌, true, false, ◌⊎◌, List, [], ◌∷◌, length, Some, None, Ok, Err, Result}
use Rattle.refusals.specs.declared.Refusal.{Refusal}
use Rattle.refusals.specs.declared.Refusal.TheVariants.{BadHorizon, BadYard, BadTransit, BadCapacity, BadEnds, NoneLeft, NoDeparture, NamedBefore}
use Rattle.refusals.specs.Refusals.{Rule, rule, Decides}
use Rattle.timetable.specs.declared.Lane.{Lane}
use Rattle.timetable.specs.Plans.{departs, is_depot}
use Rattle.roads.specs.Grids.{Grid, timetable, opened, with_lane, with_depot, with_capacity}

-- the number is not one of those from low to high
abbrev pub Outside : ℕ → ℕ → ℕ → Type 0
Outside low high n = (n < low) ⊎ (high < n)

abbrev pub opening_rules : ℕ → ℕ → List Rule
opening_rules horizon origin = rule BadHorizon (Outside 1 47 horizon) ∷ rule BadYard (31 < origin) ∷ []

abbrev pub lane_rules : Grid → Lane → ℕ → List Rule
lane_rules g lane capacity =
    rule BadYard ((31 < lane.from) ⊎ (31 < lane.to)) ∷ rule BadTransit (Outside 1 47 lane.transit) ∷ rule BadCapacity (9999 < capacity)
    ∷ rule BadEnds ((lane.to ≡ g.origin) ⊎ (lane.to ≡ lane.from)) ∷ rule NoneLeft (96 ≤ length g.lanes) ∷ []

abbrev pub depot_rules : Grid → ℕ → List Rule
depot_rules g yard = rule BadYard (31 < yard) ∷ rule NoneLeft (16 ≤ length g.depots) ∷ rule NamedBefore ((yard ≡ g.origin) ⊎ (is_depot (timetable g) yard ≡ true)) ∷ []

abbrev pub capacity_rules : Grid → ℕ → ℕ → ℕ → List Rule
capacity_rules g lane period capacity =
    rule BadCapacity (9999 < capacity) ∷ rule NoDeparture ((length g.lanes ≤ lane) ⊎ (departs (timetable g) lane period ≡ false)) ∷ []

-- Each call answers by its rules. Turned away, it leaves the roads as they were.
abbrev pub Opens : Grid → ℕ → ℕ → Result Unit Refusal → Grid → Type 0
Opens g horizon origin (Ok x) g' = Decides (opening_rules horizon origin) None × (g' ≡ opened horizon origin)
Opens g horizon origin (Err why) g' = Decides (opening_rules horizon origin) (Some why) × (g' ≡ g)

-- the lane gets the next number
abbrev pub Adds : Grid → Lane → ℕ → Result ℕ Refusal → Grid → Type 0
Adds g lane capacity (Ok n) g' = Decides (lane_rules g lane capacity) None × (n ≡ length g.lanes) × (g' ≡ with_lane g lane capacity)
Adds g lane capacity (Err why) g' = Decides (lane_rules g lane capacity) (Some why) × (g' ≡ g)

-- the depot gets the next place in their order
abbrev pub Names : Grid → ℕ → Result ℕ Refusal → Grid → Type 0
Names g yard (Ok n) g' = Decides (depot_rules g yard) None × (n ≡ length g.depots) × (g' ≡ with_depot g yard)
Names g yard (Err why) g' = Decides (depot_rules g yard) (Some why) × (g' ≡ g)

-- the capacity that the departure had is given
abbrev pub Sets : Grid → ℕ → ℕ → ℕ → Result ℕ Refusal → Grid → Type 0
Sets g lane period capacity (Ok had) g' =
    Decides (capacity_rules g lane period capacity) None × (had ≡ (timetable g).capacity lane period) × (g' ≡ with_capacity g lane period capacity)
Sets g lane period capacity (Err why) g' = Decides (capacity_rules g lane period capacity) (Some why) × (g' ≡ g)
