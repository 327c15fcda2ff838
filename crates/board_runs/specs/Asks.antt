-- Calls and answers, in plain lists and numbers.
use Rattle.std.specs.Prelude.{ℕ, List, vec_items}
use Rattle.ranking.specs.Ranking.{Ranking}
use Rattle.timetable.specs.declared.Lane.{Lane}
use Rattle.refusals.specs.declared.Refusal.{Refusal}
use Rattle.slips.specs.declared.moves.Act.{Act}
use Rattle.board_runs.specs.declared.call.Answer.{Answer}
use Rattle.board_runs.specs.declared.call.Answer.TheVariants as answer
use Rattle.board_runs.specs.declared.call.Call.{Call}
use Rattle.board_runs.specs.declared.call.Call.TheVariants as call

-- A call: a lane is added, a depot named, the capacity of a departure set, pallets held for a yard, the slip of a number picked up, the
-- slip at a place of the hand spent, or a quote asked for, by a ranking for each number of depots and each horizon, in two lists.
pub data Ask : Type 0 where
  add_lane : (lane : Lane) (capacity : ℕ) → Ask
  name_depot : (yard : ℕ) → Ask
  set_departure : (lane period capacity : ℕ) → Ask
  hold : (yard pallets : ℕ) → Ask
  pick_up : (number : ℕ) → Ask
  spend : (place : ℕ) (act : Act) → Ask
  quote : (ranking : ℕ → ℕ → Ranking) (figures marks : List ℕ) → Ask

-- An answer: the number of the lane, the place of the depot in their order, the number of the slip; that it was done; the lists of a
-- quote; a refusal, and the lists that came back with it; or that no slip is at that place.
pub data Reply : Type 0 where
  added : (lane : ℕ) → Reply
  named : (order : ℕ) → Reply
  held : (number : ℕ) → Reply
  done : Reply
  quoted : (figures marks : List ℕ) → Reply
  refused : (why : Refusal) → Reply
  not_quoted : (why : Refusal) (figures marks : List ℕ) → Reply
  no_slip : Reply

-- what a call and an answer of the code say
abbrev pub asked : {R : Type 0} → (R → ℕ → ℕ → Ranking) → Call R → Ask
asked meaning (call.AddLane lane capacity) = add_lane lane capacity
asked meaning (call.NameDepot yard) = name_depot yard
asked meaning (call.SetDeparture lane period capacity) = set_departure lane period capacity
asked meaning (call.Hold yard pallets) = hold yard pallets
asked meaning (call.PickUp number) = pick_up number
asked meaning (call.Spend place act) = spend place act
asked meaning (call.Quote ranking figures marks) = quote (meaning ranking) (vec_items figures) (vec_items marks)

abbrev pub told : Answer → Reply
told (answer.Added lane) = added lane
told (answer.Named order) = named order
told (answer.Held number) = held number
told answer.Done = done
told (answer.Quoted figures marks) = quoted (vec_items figures) (vec_items marks)
told (answer.Refused why) = refused why
told (answer.NotQuoted why figures marks) = not_quoted why (vec_items figures) (vec_items marks)
told answer.NoSlip = no_slip
