-- What each call finds, what it is answered, and what it leaves.
use Rattle.std.specs.Prelude.{◌≡◌, ℕ, ◌+◌, ◌-◌, ◌≤◌, List, [], ◌∷◌, ◌++◌, length, drop, Some, None, Option, vec_items, vec_len, vec_capacity, slice_get}
use Rattle.std.specs.List.{remove}
use Rattle.std.specs.Option.{option_map}
use Rattle.ranking.specs.Ranking.{Ranking}
use Rattle.timetable.specs.Quotes.{Right}
use Rattle.refusals.specs.declared.Refusal.{Refusal}
use Rattle.refusals.specs.Refusals.{Rule, Decides}
use Rattle.slips.specs.declared.moves.Act.{Act}
use Rattle.slips.specs.declared.moves.SlipCall.TheVariants.{PickUp, Spend}
use Rattle.slips.specs.declared.slip.Slip.{Slip}
use Rattle.slips.specs.Holds.{state_of, standing_of}
use Rattle.slips.specs.Moves.{becomes}
use Rattle.slips.specs.Slips.{slip_of}
use Rattle.board.specs.Rules.{adding_rules, naming_rules, setting_rules, holding_rules, spending_rules, picking_rules, quoting_rules, mark_count}
use Rattle.board.specs.States.{State, Stands, day, owed, fresh, lane_added, depot_named, capacity_set, moved, next_slip, plan_on}
use Rattle.board.specs.States as board
use Rattle.board_runs.specs.Asks.{Ask, Reply, add_lane, name_depot, set_departure, hold, pick_up, spend, quote, added, named, held, done, quoted, refused, not_quoted, no_slip}
use Rattle.board_runs.specs.declared.desk.Desk.{Desk}

-- The board as its calls make it, and the slips in hand.
pub record World : Type 0 where
  pub board : State
  pub hand : List Slip

-- a ranking on a board, for its depots and its horizon
abbrev pub ranking_on : State → (ℕ → ℕ → Ranking) → Ranking
ranking_on s ranking = ranking (length s.grid.depots) s.grid.horizon

-- the slip at a place of the hand
abbrev pub slip_in : World → ℕ → Option Slip
slip_in w place = slice_get w.hand place

-- the slip of the hold of a number
abbrev pub slip_on : State → ℕ → Option Slip
slip_on s number = option_map (λ e. slip_of number e.depot e.pallets) (slice_get s.holds number)

-- The rules by which a call is turned away. A call with a slip that is not there meets none.
abbrev pub spending_at : State → Act → Option Slip → List Rule
spending_at s act (Some slip) = spending_rules s slip act
spending_at s act None = []

abbrev pub rules_of : World → Ask → List Rule
rules_of w (add_lane lane capacity) = adding_rules w.board lane capacity
rules_of w (name_depot yard) = naming_rules w.board yard
rules_of w (set_departure lane period capacity) = setting_rules w.board lane period capacity
rules_of w (hold yard pallets) = holding_rules w.board yard pallets
rules_of w (pick_up number) = picking_rules w.board number
rules_of w (spend place act) = spending_at w.board act (slip_in w place)
rules_of w (quote ranking figures marks) = quoting_rules w.board (ranking_on w.board ranking) (length figures) (length marks)

-- What an accepted call makes of the board and the hand. A hold and a pick-up give a slip, which goes to the end of the hand; a spent
-- slip leaves it.
abbrev pub with_board : World → State → World
with_board w s = record { board = s; hand = w.hand }

abbrev pub gains : World → State → Slip → World
gains w s slip = record { board = s; hand = w.hand ++ slip ∷ [] }

abbrev pub picked : World → ℕ → Option Slip → World
picked w number (Some slip) = gains w (moved w.board slip (becomes PickUp (state_of w.board.holds number))) slip
picked w number None = w

abbrev pub spent : World → ℕ → Act → Option Slip → World
spent w place act (Some slip) = record { board = moved w.board slip (becomes (Spend act) (standing_of w.board.holds slip)); hand = remove w.hand place }
spent w place act None = w

abbrev pub made : World → Ask → World
made w (add_lane lane capacity) = with_board w (lane_added w.board lane capacity)
made w (name_depot yard) = with_board w (depot_named w.board yard)
made w (set_departure lane period capacity) = with_board w (capacity_set w.board lane period capacity)
made w (hold yard pallets) = gains w (board.held w.board yard pallets) (next_slip w.board yard pallets)
made w (pick_up number) = picked w number (slip_on w.board number)
made w (spend place act) = spent w place act (slip_in w place)
made w (quote ranking figures marks) = w

-- The world after a call: a refusal leaves all as it was.
abbrev pub after : World → Ask → Option Refusal → World
after w c None = made w c
after w c (Some why) = w

-- What a call is answered. A quote that is told is right, and writes nothing past its figures and its marks.
abbrev pub spend_reply : Option Slip → Reply
spend_reply (Some slip) = done
spend_reply None = no_slip

abbrev pub Quoted : State → Ranking → List ℕ → List ℕ → Reply → Type 0
Quoted s R figures marks a =
    (figures' : List ℕ) × (marks' : List ℕ) × (a ≡ quoted figures' marks') × Right (day s) (owed s) R figures' marks'
    × (drop R.ranks figures' ≡ drop R.ranks figures) × (drop (mark_count s) marks' ≡ drop (mark_count s) marks)

abbrev pub Accepted : World → Ask → Reply → Type 0
Accepted w (add_lane lane capacity) a = a ≡ added (length w.board.grid.lanes)
Accepted w (name_depot yard) a = a ≡ named (length w.board.grid.depots)
Accepted w (set_departure lane period capacity) a = a ≡ done
Accepted w (hold yard pallets) a = a ≡ held (length w.board.holds)
Accepted w (pick_up number) a = a ≡ done
Accepted w (spend place act) a = a ≡ spend_reply (slip_in w place)
Accepted w (quote ranking figures marks) a = Quoted w.board (ranking_on w.board ranking) figures marks a

-- a refusal, which hands the lists of a quote back as they were
abbrev pub turned_away : Ask → Refusal → Reply
turned_away (add_lane lane capacity) why = refused why
turned_away (name_depot yard) why = refused why
turned_away (set_departure lane period capacity) why = refused why
turned_away (hold yard pallets) why = refused why
turned_away (pick_up number) why = refused why
turned_away (spend place act) why = refused why
turned_away (quote ranking figures marks) why = not_quoted why figures marks

abbrev pub Answered : World → Ask → Option Refusal → Reply → Type 0
Answered w c None a = Accepted w c a
Answered w c (Some why) a = a ≡ turned_away c why

-- A moment: the world, and the standing plan.
pub record Moment : Type 0 where
  pub world : World
  pub plan : ℕ → ℕ → ℕ

-- One call. The first rule whose condition holds decides whether it is refused; nothing else does. The plan that stands after it is
-- free, but a refusal leaves it.
pub record Step (m : Moment) (c : Ask) (a : Reply) (m' : Moment) : Type 0 where
  pub outcome : Option Refusal
  pub decided : Decides (rules_of m.world c) outcome
  pub leaves : m'.world ≡ after m.world c outcome
  pub answered : Answered m.world c outcome a
  pub stands : Stands m'.world.board m'.plan
  pub kept : (why : Refusal) → outcome ≡ Some why → m'.plan ≡ m.plan

-- the moment of a desk, and how many slips more its hand has places for
abbrev pub moment_of : Desk → Moment
moment_of d = record { world = record { board = board.state_of d.board; hand = vec_items d.hand }; plan = plan_on d.board }

abbrev pub spare_places : Desk → ℕ
spare_places d = vec_capacity d.hand - vec_len d.hand

-- Inside: one call at a desk is a step, and takes at most one of the spare places.
pub record Turned (d : Desk) (c : Ask) (a : Reply) (d' : Desk) : Type 0 where
  pub step : Step (moment_of d) c a (moment_of d')
  pub spare : spare_places d ≤ spare_places d' + 1
