-- The lines that are printed, byte by byte.
use Rattle.std.specs.Prelude.{ℕ, List, [], ◌∷◌, ◌++◌, Some, None, Ok, Err, Option, Result, codes, decimal, map, if◌then◌else◌}
use Rattle.dayfile.specs.declared.fault.Position.{Position}
use Rattle.dayfile.specs.declared.mark.Mark.{Mark}
use Rattle.dayfile.specs.Marks.{letters}
use Rattle.dayfile.specs.Names.{is_text}
use Rattle.dayfile.specs.Texts.{words, fault_text}
use Rattle.run_sheet.specs.declared.leg.Leg.{Leg}
use Rattle.session.specs.declared.fault.DayFault.{DayFault}
use Rattle.session.specs.Faults.{day_number}
use Rattle.session.specs.Replies.{Answer, done, lane_number, depot_order, slip_number, figures}

-- a name as its text; bytes that are no text are shown as a question mark
abbrev pub name_text : List ℕ → List ℕ
name_text n = if is_text n then n else codes "?"

-- a depot's place in their order, and the name of its yard, if it has one
abbrev pub depot_words : ℕ → Option (List ℕ) → List (List ℕ)
depot_words n None = decimal n ∷ []
depot_words n (Some name) = decimal n ∷ name_text name ∷ []

-- the words after `ok`
abbrev pub answer_words : Answer → List (List ℕ)
answer_words done = []
answer_words (lane_number n) = decimal n ∷ []
answer_words (depot_order n name) = depot_words n name
answer_words (slip_number n) = decimal n ∷ []
answer_words (figures fs) = map decimal fs

-- the line of the n-th record, with its mark, where it is answered
abbrev pub reply_line : ℕ → Mark → Answer → List ℕ
reply_line n m a = words (decimal n ∷ letters m ∷ codes "ok" ∷ answer_words a)

-- the same, and where it is turned away: then the fault's number stands there
abbrev pub record_line : ℕ → Mark → Result Answer DayFault → List ℕ
record_line n m (Ok a) = reply_line n m a
record_line n m (Err f) = words (decimal n ∷ letters m ∷ codes "no" ∷ decimal (day_number f) ∷ [])

-- the line of a run: its pallets, which are the same on each leg, a colon, and for each leg its lane and its period
abbrev pub pallets_of : List Leg → ℕ
pallets_of [] = 0
pallets_of (leg ∷ legs) = leg.pallets

abbrev pub leg_text : Leg → List ℕ
leg_text leg = decimal leg.lane ++ (codes "@" ++ decimal leg.period)

abbrev pub run_line : List Leg → List ℕ
run_line legs = words ((decimal (pallets_of legs) ++ codes ":") ∷ map leg_text legs)

-- the line of a fault that ends the reading: its record, its number, and where it was met
abbrev pub fault_line : ℕ → Position → List ℕ
fault_line k at = words (decimal at.nth ∷ codes "??" ∷ fault_text k at ∷ [])
