-- The lines of a whole day.
use Rattle.std.specs.Prelude.{◌≡◌, ⊤, ℕ, Bool, false, is_ok, MatchBool, List, [], ◌∷◌, ◌++◌, Some, None, Ok, Err, string_bytes, Option, Result, String}
use Rattle.std.specs.List.{zip}
use Rattle.std.specs.declared.alloc.Global.{Global}
use Rattle.refusals.specs.Runs.{Ran}
use Rattle.dayfile.specs.declared.fault.Position.{Position}
use Rattle.dayfile.specs.declared.fault.RecordFault.{RecordFault}
use Rattle.dayfile.specs.declared.reader.Reader.{Reader}
use Rattle.dayfile.specs.declared.record.Record.{Record as Entry}
use Rattle.dayfile.specs.Faults.{record_number, record_position}
use Rattle.dayfile.specs.Records.{Rec, opening, yard_name, lane, depot, departure, hold, book, release, quote, run_sheet, view, mark_of_record}
use Rattle.dayfile.specs.Reading.{Reads, Next, place_of}
use Rattle.session.specs.declared.fault.DayFault.{DayFault}
use Rattle.session.specs.Days.{Day, beginning}
use Rattle.session.specs.Performing.{Turns}
use Rattle.session.specs.Sheets.{RunsOf}
use Rattle.run_sheet.specs.declared.leg.Leg.{Leg}
use Rattle.session.specs.Replies.{Answer}
use Rattle.lines.specs.declared.ending.Ending.{Ending}
use Rattle.lines.specs.declared.ending.Ending.TheVariants.{Fault, Memory}
use Rattle.lines.specs.Lines.{record_line, run_line, fault_line}

-- a line with the line feed that ends it
abbrev pub ended : List ℕ → List ℕ
ended l = l ++ (10 ∷ [])

-- the lines of runs, each after a line feed
abbrev pub followed : List (List Leg) → List ℕ
followed [] = []
followed (legs ∷ runs) = 10 ∷ (run_line legs ++ followed runs)

-- What a record got: what it was answered, and the runs that were told.
abbrev pub Got : Type 0
Got = Result Answer DayFault × List (List Leg)

-- the line of a record at its position, with what it was answered, and those of the runs
abbrev pub turn_line : Position × Rec → Got → List ℕ
turn_line x g = record_line x.0.nth (mark_of_record x.1) g.0 ++ followed g.1

-- A run sheet that is not turned away tells the runs of the board; no other record tells runs.
abbrev pub tells_runs : Rec → Result Answer DayFault → Bool
tells_runs (opening h o) r = false
tells_runs (yard_name y p n) r = false
tells_runs (lane f t h c) r = false
tells_runs (depot y) r = false
tells_runs (departure l t c) r = false
tells_runs (hold y n) r = false
tells_runs (book s) r = false
tells_runs (release s) r = false
tells_runs (quote n) r = false
tells_runs run_sheet r = is_ok r

abbrev pub Told : Rec → Result Answer DayFault → Day → List (List Leg) → Type 0
Told x r d runs = MatchBool (tells_runs x r) (RunsOf d.board runs) (runs ≡ [])

-- a record is performed, and what it tells is told
abbrev pub TurnsAndTells : Day → Position × Rec → Got → Day → Type 0
TurnsAndTells d x g e = Turns d x g.0 e × Told x.1 g.0 e g.1

-- a line for each record and its answer, and one for the fault that ends the reading, if there is one
abbrev pub lines_of : List ((Position × Rec) × Got) → Option RecordFault → List ℕ
lines_of [] None = []
lines_of [] (Some f) = ended (fault_line (record_number f) (record_position f))
lines_of (t ∷ ts) f = ended (turn_line t.0 t.1) ++ lines_of ts f

-- The text is that of the file's day: the records of the file's reading are performed in their order, from the beginning of a day
-- to its end, and the text has their lines and that of the reading's fault.
pub record Lists (file text : List ℕ) : Type 0 where
  pub records : List (Position × Rec)
  pub fault : Option RecordFault
  pub answers : List Got
  pub end : Day
  pub reads : Reads file 1 0 records fault
  pub runs : Ran TurnsAndTells beginning records answers end
  pub lines : text ≡ lines_of (zip records answers) fault

-- One line more: that of the record that the reader gave, if it gave one, by what the record was answered; or the fault of the
-- reading. Where memory ends, nothing is said.
abbrev pub NextLine : Reader → Day → Result (Option (String Global)) Ending → Reader → Day → Type 0
NextLine s d (Ok None) t e = Next s (Ok None) t
NextLine s d (Ok (Some line)) t e =
    (y : Entry) × (g : Got) × Next s (Ok (Some y)) t × TurnsAndTells d (place_of s, view y) g e × (string_bytes line ≡ turn_line (place_of s, view y) g)
NextLine s d (Err (Fault f)) t e = Next s (Err f) t
NextLine s d (Err (Memory e)) t d' = ⊤
