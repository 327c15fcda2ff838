-- How the records of a day are performed.
use Rattle.std.specs.Prelude.{◌≡◌, ℕ, Bool, not, List, length, Some, None, Ok, Err, Option, Result, MatchBool, nat_lt, ◌==◌, if◌then◌else◌}
use Rattle.ranking.specs.Ranking.{Ranking, by_depot, by_period}
use Rattle.timetable.specs.declared.Lane.{Lane}
use Rattle.refusals.specs.declared.Refusal.{Refusal}
use Rattle.refusals.specs.declared.Refusal.TheVariants.{BadYard}
use Rattle.slips.specs.declared.moves.Act.TheVariants.{Book, Release}
use Rattle.dayfile.specs.declared.fault.Position.{Position}
use Rattle.dayfile.specs.declared.fault.RecordFault.TheVariants.{NoRanking, OutOfTurn}
use Rattle.dayfile.specs.Records.{Rec, opening, yard_name, lane, depot, departure, hold, book, release, quote, run_sheet}
use Rattle.board.specs.States.{State}
use Rattle.board.specs.Calls.{Opens, Adds, Names, Sets}
use Rattle.session.specs.declared.fault.DayFault.{DayFault}
use Rattle.session.specs.declared.fault.DayFault.TheVariants.{Record, Board}
use Rattle.session.specs.Asking.{HoldsPinned, SpendsPicked, QuotesFigures}
use Rattle.session.specs.Days.{Day, name_of, with_board, opened_as, named}
use Rattle.session.specs.Replies.{Answer, done, lane_number, depot_order, slip_number, figures}

-- before a record has opened the board each other record is out of turn, and after that each opening is
abbrev pub out_of_turn : Bool → Rec → Bool
out_of_turn opened (opening h o) = opened
out_of_turn opened x = not opened

-- A record makes a call on the board. Where the call is accepted, the record is answered what that says, and the day goes on with
-- the board after the call. Where the board turns it away, the record is told why, with its position, and the day is as it was.
unfoldable pub Called : {X : Type 0} → (Result X Refusal → State → Type 0) → (X → Answer) → (State → Day) → Day → Position → Result Answer DayFault → Day → Type 0
Called {X = X} Call says after d at (Ok a) d' = (x : X) × (b : State) × Call (Ok x) b × (a ≡ says x) × (d' ≡ after b)
Called Call says after d at (Err f) d' = (why : Refusal) × Call (Err why) d.board × (f ≡ Board why at) × (d' ≡ d)

-- a yard is named
unfoldable pub NamesYard : Day → ℕ → List ℕ → Position → Result Answer DayFault → Day → Type 0
NamesYard d yard name at r d' = MatchBool (nat_lt 31 yard) ((r ≡ Err (Board BadYard at)) × (d' ≡ d)) ((r ≡ Ok done) × (d' ≡ named d yard name))

-- the ranking of a quote: 0 is depot order, 1 is period order, and nothing else is one
abbrev pub ranking_of : State → ℕ → Option Ranking
ranking_of s n = if n == 0 then Some (by_depot (length s.grid.depots)) else if n == 1 then Some (by_period s.grid.horizon) else None

-- a quote by a ranking, if it is one
unfoldable pub QuotesBy : Option Ranking → Day → Position → Result Answer DayFault → Day → Type 0
QuotesBy None d at r d' = (r ≡ Err (Record (NoRanking at))) × (d' ≡ d)
QuotesBy (Some R) d at r d' = (told : List ℕ) × QuotesFigures d.board R told × (r ≡ Ok (figures told)) × (d' ≡ d)

abbrev pub lane_of : ℕ → ℕ → ℕ → Lane
lane_of f t h = record { from = f; to = t; transit = h }

-- what a record in its turn is answered, and the day after it
abbrev pub InTurn : Rec → Day → Position → Result Answer DayFault → Day → Type 0
InTurn (opening h o) d = Called (Opens d.board h o) (λ x. done) (opened_as d) d
InTurn (yard_name y p n) d = NamesYard d y n
InTurn (lane f t h c) d = Called (Adds d.board (lane_of f t h) c) lane_number (with_board d) d
InTurn (depot y) d = Called (Names d.board y) (λ n. depot_order n (name_of d y)) (with_board d) d
InTurn (departure l t c) d = Called (Sets d.board l t c) (λ x. done) (with_board d) d
InTurn (hold y n) d = Called (HoldsPinned d.board y n) slip_number (with_board d) d
InTurn (book s) d = Called (SpendsPicked d.board s Book) (λ x. done) (with_board d) d
InTurn (release s) d = Called (SpendsPicked d.board s Release) (λ x. done) (with_board d) d
InTurn (quote n) d = QuotesBy (ranking_of d.board n) d
InTurn run_sheet d = λ at r d'. (r ≡ Ok done) × (d' ≡ d)

-- what a record at a position is answered, and the day after it; a record out of turn changes nothing
abbrev pub Performs : Day → Rec → Position → Result Answer DayFault → Day → Type 0
Performs d x at r d' = MatchBool (out_of_turn d.opened x) ((r ≡ Err (Record (OutOfTurn at))) × (d' ≡ d)) (InTurn x d at r d')

-- a turn of a day: a record with its position is performed
abbrev pub Turns : Day → Position × Rec → Result Answer DayFault → Day → Type 0
Turns d x r d' = Performs d x.1 x.0 r d'
