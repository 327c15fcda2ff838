-- What holds of every list of calls on a board that was just opened.
use Rattle.std.specs.Prelude.{◌≡◌, ℕ, List, [], ◌∷◌, map, take, drop, Some, None, Ok, Err, Option, Result, vec_items, slice_get}
use Rattle.ranking.specs.Ranking.{Ranking}
use Rattle.timetable.specs.Quotes.{Right}
use Rattle.refusals.specs.declared.Refusal.{Refusal}
use Rattle.refusals.specs.declared.Refusal.TheVariants.{NoPlan}
use Rattle.refusals.specs.Refusals.{Decides}
use Rattle.roads.specs.Rules.{capacity_rules, opening_rules}
use Rattle.slips.specs.declared.slip.Slip.{Slip}
use Rattle.board.specs.Rules.{Short, holding_checks}
use Rattle.board.specs.States.{State, Stands, day, owed, fresh, capacity_set, plan_on, state_of}
use Rattle.board.specs.States as board
use Rattle.board_runs.specs.Asks.{Ask, Reply, asked, told, add_lane, name_depot, set_departure, hold, pick_up, spend, quote, quoted, refused}
use Rattle.refusals.specs.Runs.{Ran}
use Rattle.board_runs.specs.Steps.{World, Moment, Step, after, ranking_on, rules_of}
use Rattle.board_runs.specs.declared.call.Call.{Call}
use Rattle.board_runs.specs.declared.replay.NotRun.{NotRun}
use Rattle.board_runs.specs.declared.replay.Outcome.{Outcome}
use Rattle.board.specs.declared.board.Board.{Board}
use Rattle.board_runs.specs.declared.replay.Reason.{Reason}
use Rattle.board_runs.specs.declared.replay.Reason.TheVariants.{Refused}

-- Calls make a world of another, in their order. Only the rules say which of them are refused; what a board keeps or answers has no part
-- in it.
pub data Makes : World → List Ask → World → Type 0 where
  nothing : {w : World} → Makes w [] w
  then : {w u : World} {c : Ask} {cs : List Ask} (outcome : Option Refusal) → Decides (rules_of w c) outcome → Makes (after w c outcome) cs u → Makes w (c ∷ cs) u

-- They leave no choice.
abbrev pub OneWorld : Type 0
OneWorld = (w u v : World) (cs : List Ask) → Makes w cs u → Makes w cs v → u ≡ v

-- A call that meets no other refusal is turned away exactly when the board with it made would be short: when no feasible plan would
-- deliver all then owed.
pub record Exactly (a : Reply) (short : Type 0) : Type 0 where
  pub because : a ≡ refused NoPlan → short
  pub always : short → a ≡ refused NoPlan
  pub nothing_else : (why : Refusal) → a ≡ refused why → why ≡ NoPlan

abbrev pub Judged : State → Ask → Reply → Type 0
Judged s (add_lane lane capacity) a = Unit {0}
Judged s (name_depot yard) a = Unit {0}
Judged s (set_departure lane period capacity) a = Decides (capacity_rules s.grid lane period capacity) None → Exactly a (Short (capacity_set s lane period capacity))
Judged s (hold yard pallets) a = Decides (holding_checks s yard pallets) None → Exactly a (Short (board.held s yard pallets))
Judged s (pick_up number) a = Unit {0}
Judged s (spend place act) a = Unit {0}
Judged s (quote ranking figures marks) a = Unit {0}

-- A quote that is told is right for the board as it then stands.
abbrev pub Rightly : State → Ask → Reply → Type 0
Rightly s (add_lane lane capacity) a = Unit {0}
Rightly s (name_depot yard) a = Unit {0}
Rightly s (set_departure lane period capacity) a = Unit {0}
Rightly s (hold yard pallets) a = Unit {0}
Rightly s (pick_up number) a = Unit {0}
Rightly s (spend place act) a = Unit {0}
Rightly s (quote ranking figures marks) a = (figures' marks' : List ℕ) → a ≡ quoted figures' marks' → Right (day s) (owed s) (ranking_on s ranking) figures' marks'

-- The theorem: calls and answers lead from a board that was just opened, and the slips handed in, to the last moment.
pub record Kept (horizon origin : ℕ) (start : List Slip) (calls : List Ask) (said : List Reply) (last : Moment) : Type 0 where
  -- the moment after the first k calls; from the last one on it stays the same
  pub at : ℕ → Moment
  pub opened : (at 0).world ≡ record { board = fresh horizon origin; hand = start }
  pub before : (k : ℕ) → Ran Step (at 0) (take k calls) (take k said) (at k)
  pub rest : (k : ℕ) → Ran Step (at k) (drop k calls) (drop k said) last
  -- lanes, capacities, depots, holds, slip states and the slips in hand are what the calls so far make
  pub made : (k : ℕ) → Makes (at 0).world (take k calls) (at k).world
  -- before the first call, between any two and after the last the standing plan is feasible and delivers exactly what is owed
  pub stands : (k : ℕ) → Stands (at k).world.board (at k).plan
  -- each hold and each departure change that met no other refusal was turned away exactly when no plan would have been left
  pub judged : (k : ℕ) (c : Ask) (a : Reply) → slice_get calls k ≡ Some c → slice_get said k ≡ Some a → Judged (at k).world.board c a
  -- each quote that was told was right
  pub quotes : (k : ℕ) (c : Ask) (a : Reply) → slice_get calls k ≡ Some c → slice_get said k ≡ Some a → Rightly (at k).world.board c a

-- the last moment of an outcome
abbrev pub last_of : Outcome → Moment
last_of o = record { world = record { board = state_of o.board; hand = vec_items o.hand }; plan = plan_on o.board }

-- Inside: a board is opened, or the opening is refused, or memory is wanting.
abbrev pub Opened : ℕ → ℕ → Result Board Reason → Type 0
Opened horizon origin (Ok b) = Decides (opening_rules horizon origin) None × (state_of b ≡ fresh horizon origin)
Opened horizon origin (Err reason) = (why : Refusal) → reason ≡ Refused why → Decides (opening_rules horizon origin) (Some why)

-- What is answered to a list of calls. Where the opening is refused, or memory is wanting, no call is made and the slips come back.
abbrev pub Replayed : {R : Type 0} → (R → ℕ → ℕ → Ranking) → ℕ → ℕ → List Slip → List (Call R) → Result Outcome NotRun → Type 0
Replayed meaning horizon origin start calls (Ok o) =
    Decides (opening_rules horizon origin) None × Kept horizon origin start (map (asked meaning) calls) (map told (vec_items o.answers)) (last_of o)
Replayed meaning horizon origin start calls (Err back) = (vec_items back.hand ≡ start) × ((why : Refusal) → back.reason ≡ Refused why → Decides (opening_rules horizon origin) (Some why))
