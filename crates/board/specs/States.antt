-- A board as its calls make it.
use Rattle.std.specs.Prelude.{ℕ, List, [], ◌∷◌, ◌++◌, length, slice_index, slice_set}
use Rattle.timetable.specs.declared.Lane.{Lane}
use Rattle.timetable.specs.Plans.{Timetable, Feasible, Delivers}
use Rattle.roads.specs.Grids.{Grid, grid_of, timetable, opened, with_lane, with_depot, with_capacity}
use Rattle.slips.specs.declared.moves.Move.{Move}
use Rattle.slips.specs.declared.moves.Move.TheVariants.{To, Stay, Refused}
use Rattle.slips.specs.declared.moves.SlipState.TheVariants.{InHand}
use Rattle.slips.specs.declared.slip.Slip.{Slip}
use Rattle.slips.specs.declared.table.Entry.{Entry}
use Rattle.slips.specs.Holds.{holds, entry_of}
use Rattle.slips.specs.Slips.{slip_of}
use Rattle.board.specs.Owing.{owed_by}
use Rattle.board.specs.Planned.{plan_in}
use Rattle.board.specs.declared.board.Board.{Board}

-- The lanes, the capacities of their departures and the depots, and the holds accepted so far in the order of their numbers, each
-- with where it stands.
pub record State : Type 0 where
  pub grid : Grid
  pub holds : List Entry

-- the timetable of a board
abbrev pub day : State → Timetable
day s = timetable s.grid

-- what is owed at each depot, in their order
abbrev pub owed_list : State → List ℕ
owed_list s = owed_by s.grid.depots s.holds

abbrev pub owed : State → ℕ → ℕ
owed s = slice_index (owed_list s)

-- The standing plan gives each departure a load. It is feasible, and delivers at each depot just what is owed there. Which of these
-- plans it is, is free.
pub record Stands (s : State) (plan : ℕ → ℕ → ℕ) : Type 0 where
  pub feasible : Feasible (day s) plan
  pub delivers : Delivers (day s) (owed s) plan

-- a board that was just opened
abbrev pub fresh : ℕ → ℕ → State
fresh horizon origin = record { grid = opened horizon origin; holds = [] }

-- one lane more, one depot more, one capacity set, and other holds
abbrev pub lane_added : State → Lane → ℕ → State
lane_added s lane capacity = record { grid = with_lane s.grid lane capacity; holds = s.holds }

abbrev pub depot_named : State → ℕ → State
depot_named s yard = record { grid = with_depot s.grid yard; holds = s.holds }

abbrev pub capacity_set : State → ℕ → ℕ → ℕ → State
capacity_set s lane period capacity = record { grid = with_capacity s.grid lane period capacity; holds = s.holds }

abbrev pub with_holds : State → List Entry → State
with_holds s hs = record { grid = s.grid; holds = hs }

-- the slip of the next hold, and the board with that hold
abbrev pub next_slip : State → ℕ → ℕ → Slip
next_slip s yard pallets = slip_of (length s.holds) yard pallets

abbrev pub held : State → ℕ → ℕ → State
held s yard pallets = with_holds s (s.holds ++ entry_of (next_slip s yard pallets) InHand ∷ [])

-- the board once the hold of a slip has moved
abbrev pub moved : State → Slip → Move → State
moved s slip (To x) = with_holds s (slice_set s.holds slip.number (entry_of slip x))
moved s slip Stay = s
moved s slip Refused = s

-- what a board in memory is, and its standing plan
abbrev pub state_of : Board → State
state_of b = record { grid = grid_of b.roads; holds = holds b.slips }

abbrev pub plan_on : Board → ℕ → ℕ → ℕ
plan_on b = plan_in b.loads
