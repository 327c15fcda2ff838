-- What records are answered, as the code tells it.
use Rattle.std.specs.Prelude.{ℕ, List, take, Ok, Err, Option, Result}
use Rattle.std.specs.Option.{option_copied}
use Rattle.session.specs.declared.fault.DayFault.{DayFault}
use Rattle.session.specs.declared.reply.Figures.{Figures}
use Rattle.session.specs.declared.reply.Reply.{Reply}
use Rattle.session.specs.declared.reply.Reply.TheVariants as code

-- What a record is answered: that all is done; the number of a lane; the place of a depot in their order, with the name of its
-- yard, if that has one; the number of a slip; or the figures of a quote.
pub data Answer : Type 0 where
  done : Answer
  lane_number : (number : ℕ) → Answer
  depot_order : (order : ℕ) (name : Option (List ℕ)) → Answer
  slip_number : (number : ℕ) → Answer
  figures : (list : List ℕ) → Answer

abbrev pub figures_of : Figures → List ℕ
figures_of f = take f.count f.list

-- what a reply of the code says
abbrev pub answer_of : Reply → Answer
answer_of code.Done = done
answer_of (code.Lane n) = lane_number n
answer_of (code.Depot n name) = depot_order n (option_copied name)
answer_of (code.Slip n) = slip_number n
answer_of (code.Figures f) = figures (figures_of f)

-- the same of what a call answers: a reply, or a fault
abbrev pub told : Result Reply DayFault → Result Answer DayFault
told (Ok x) = Ok (answer_of x)
told (Err f) = Err f
