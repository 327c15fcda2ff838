-- A record has one answer on a day, and leaves one day.
use Rattle.std.proofs.Common.{◌≡◌, ℕ, Bool, true, false, List, None, Some, Ok, Err, Option, Result, sym, ap, ◌∙◌, arith}
use Rattle.std.specs.Prelude.{MatchBool, nat_lt}
use Rattle.std.proofs.lemmas.List.{ext_get_or}
use Rattle.ranking.specs.Ranking.{Ranking}
use Rattle.timetable.proofs.Unique.{right_unique}
use Rattle.refusals.specs.declared.Refusal.{Refusal}
use Rattle.slips.specs.declared.moves.Act.TheVariants.{Book, Release}
use Rattle.dayfile.specs.declared.fault.Position.{Position}
use Rattle.dayfile.specs.Records.{Rec, opening, yard_name, lane, depot, departure, hold, book, release, quote, run_sheet}
use Rattle.board.specs.States.{State, day, owed}
use Rattle.session.specs.declared.fault.DayFault.{DayFault}
use Rattle.session.specs.declared.fault.DayFault.TheVariants.{Board}
use Rattle.session.specs.Asking.{QuotesFigures}
use Rattle.session.specs.Days.{Day}
use Rattle.session.specs.Performing.{Called, NamesYard, QuotesBy, InTurn, lane_of, out_of_turn, ranking_of}
use Rattle.session.specs.Replies.{Answer, figures}
use Rattle.one_day.specs.OneDay.{OneAnswer}
use Rattle.one_day.proofs.Calls.{One, opens_one, adds_one, names_one, sets_one, holds_pinned_one, spends_picked_one}

-- one answer and one day of a relation
abbrev pub Only : (Result Answer DayFault → Day → Type 0) → Type 0
Only Gives = (r q : Result Answer DayFault) (e u : Day) → Gives r e → Gives q u → (r ≡ q) × (e ≡ u)

module _ {X : Type 0} (Call : Result X Refusal → State → Type 0) (one : One Call) (says : X → Answer) (after : State → Day) (d : Day) (at : Position) where
  pub called_one : Only (Called Call says after d at)
  unfolding Called
  called_one (Ok a) (Ok a') e u (x, b, p, sp, ep) (y, c, q, sq, eq) =
      let (ok, board) = one (Ok x) (Ok y) b c p q in
      let same : x ≡ y = cc in
      (ap Ok (sp ∙ (ap says same ∙ sym sq)), ep ∙ (ap after board ∙ sym eq))
  called_one (Ok a) (Err f) e u (x, b, p, sp, ep) (why, q, fq, eq) = let clash = (one (Ok x) (Err why) b d.board p q).0 in cc
  called_one (Err f) (Ok a) e u (why, p, fp, ep) (y, c, q, sq, eq) = let clash = (one (Err why) (Ok y) d.board c p q).0 in cc
  called_one (Err f) (Err g) e u (why, p, fp, ep) (how, q, fq, eq) =
      let err = (one (Err why) (Err how) d.board d.board p q).0 in
      let same : why ≡ how = cc in
      (ap Err (fp ∙ (ap (λ (w : Refusal). Board w at) same ∙ sym fq)), ep ∙ sym eq)

-- what is one of two, by a test
chosen : (b : Bool) (r s t q : Result Answer DayFault) (e v w u : Day) → MatchBool b ((r ≡ s) × (e ≡ v)) ((r ≡ t) × (e ≡ w))
    → MatchBool b ((q ≡ s) × (u ≡ v)) ((q ≡ t) × (u ≡ w)) → (r ≡ q) × (e ≡ u)
chosen true r s t q e v w u p o = (p.0 ∙ sym o.0, p.1 ∙ sym o.1)
chosen false r s t q e v w u p o = (p.0 ∙ sym o.0, p.1 ∙ sym o.1)

names_yard_one : (d : Day) (yard : ℕ) (name : List ℕ) (at : Position) → Only (NamesYard d yard name at)
unfolding NamesYard
names_yard_one d yard name at r q e u p o = chosen (nat_lt 31 yard) r _ _ q e _ _ u p o

-- right quotes have the same figures
figures_one : (s : State) (R : Ranking) (a b : List ℕ) → QuotesFigures s R a → QuotesFigures s R b → a ≡ b
figures_one s R a b p q =
    let agree = right_unique (day s) (owed s) R a p.marks b q.marks p.right q.right in
    ext_get_or 0 a b (p.each ∙ sym q.each) (λ i l. agree.shares i (omega (arith, p.each)))

quotes_by_one : (o : Option Ranking) (d : Day) (at : Position) → Only (QuotesBy o d at)
unfolding QuotesBy
quotes_by_one None d at r q e u p o = (p.0 ∙ sym o.0, p.1 ∙ sym o.1)
quotes_by_one (Some R) d at r q e u (a, fp, rp, ep) (b, fq, rq, eq) = (rp ∙ (ap (λ (l : List ℕ). Ok (figures l)) (figures_one d.board R a b fp fq) ∙ sym rq), ep ∙ sym eq)

in_turn_one : (x : Rec) (d : Day) (at : Position) → Only (InTurn x d at)
in_turn_one (opening h o) d at = called_one _ (opens_one d.board h o) _ _ d at
in_turn_one (yard_name y p n) d at = names_yard_one d y n at
in_turn_one (lane f t h c) d at = called_one _ (adds_one d.board (lane_of f t h) c) _ _ d at
in_turn_one (depot y) d at = called_one _ (names_one d.board y) _ _ d at
in_turn_one (departure l t c) d at = called_one _ (sets_one d.board l t c) _ _ d at
in_turn_one (hold y n) d at = called_one _ (holds_pinned_one d.board y n) _ _ d at
in_turn_one (book s) d at = called_one _ (spends_picked_one d.board s Book) _ _ d at
in_turn_one (release s) d at = called_one _ (spends_picked_one d.board s Release) _ _ d at
in_turn_one (quote n) d at = quotes_by_one (ranking_of d.board n) d at
in_turn_one run_sheet d at = λ r q e u p o. (p.0 ∙ sym o.0, p.1 ∙ sym o.1)

by_turn : (b : Bool) (x : Rec) (d : Day) (at : Position) (s r q : Result Answer DayFault) (e u : Day) → MatchBool b ((r ≡ s) × (e ≡ d)) (InTurn x d at r e)
    → MatchBool b ((q ≡ s) × (u ≡ d)) (InTurn x d at q u) → (r ≡ q) × (e ≡ u)
by_turn true x d at s r q e u p o = (p.0 ∙ sym o.0, p.1 ∙ sym o.1)
by_turn false x d at s r q e u p o = in_turn_one x d at r q e u p o

pub one_answer : OneAnswer
one_answer d e u x at r q p o = by_turn (out_of_turn d.opened x) x d at _ r q e u p o
