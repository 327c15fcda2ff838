-- The rules leave no choice: a world and a request have one answer, and one world after it.
use Rattle.std.proofs.Common.{◌≡◌, ℕ, cond, ltb, List, [], ◌∷◌, ◌++◌, length, Some, None, Option, sym, refl, ap, ◌∙◌, subst}
use Rattle.std.specs.List.{slice_get}
use Rattle.std.specs.Option.{option_map}
use Rattle.std.proofs.lemmas.Option.{slice_get_past}
use Rattle.std.proofs.lemmas.Bool.{cond-true, cond-false, lt-ltb, le-ltb}
use Rattle.slips.specs.declared.moves.SlipState.{SlipState}
use Rattle.slips.specs.declared.moves.SlipState.TheVariants.{InHand, Pinned, Booked, Released}
use Rattle.slips.specs.declared.refusal.SlipRefusal.TheVariants.{NoneLeft, NotAsNeeded}
use Rattle.slips.specs.declared.slip.Slip.{Slip}
use Rattle.slips.specs.declared.table.Entry.{Entry}
use Rattle.slips.specs.Holds.{standing_of, entry_of}
use Rattle.slips.specs.Moves.{row}
use Rattle.slips.specs.Slips.{most_holds, slip_of}
use Rattle.slips.proofs.Answered.{not_in_hand, not_pinned}
use Rattle.slips.proofs.Tables.{stands}
use Rattle.slips.specs.declared.moves.Act.{Act}
use Rattle.slips.specs.declared.moves.Act.TheVariants.{Pin, Book, Release, TearUp}
use Rattle.slip_runs.specs.declared.request.Request.{Request}
use Rattle.slip_runs.specs.declared.request.Request.TheVariants.{Hold, PickUp, Give}
use Rattle.slip_runs.specs.declared.request.Answer.{Answer}
use Rattle.slip_runs.specs.declared.request.Answer.TheVariants.{Held, PickedUp, Spent, Refused, NoSlip}
use Rattle.refusals.specs.Runs.{Ran}
use Rattle.slip_runs.specs.Rules.{World, Step, gains, loses, moved}

pub record Out : Type 0 where
  pub answer : Answer
  pub after : World

abbrev out : Answer → World → Out
out a w = record { answer = a; after = w }

abbrev refusal : World → Out
refusal w = out (Refused NotAsNeeded) w

-- what comes of a hold, of a pick-up by what stands at its number, and of an act by what stands at its place
abbrev accepted : World → Slip → Out
accepted w s = out (Held s.number) (gains w (w.holds ++ entry_of s InHand ∷ []) s)

abbrev hold_out : World → ℕ → ℕ → Out
hold_out w d p = cond (ltb (length w.holds) most_holds) (accepted w (slip_of (length w.holds) d p)) (out (Refused NoneLeft) w)

abbrev pick_out : World → ℕ → Option Entry → Out
pick_out w n None = refusal w
pick_out w n (Some e) =
    let s = slip_of n e.depot e.pallets in
    row (refusal w) (out PickedUp (gains w (moved w s InHand) s)) (refusal w) (refusal w) (refusal w) (Some e.state)

abbrev spend_out : World → ℕ → Slip → SlipState → Option SlipState → Out
spend_out w i s x = row (out (Spent s.number s.depot s.pallets) (loses w (moved w s x) i)) (refusal w) (refusal w) (refusal w) (refusal w)

abbrev tear_out : World → ℕ → Slip → Option SlipState → Out
tear_out w i s =
    let gone = out (Spent s.number s.depot s.pallets) (loses w w.holds i) in
    row (refusal w) gone gone gone gone

abbrev act_out : World → ℕ → Slip → Act → Option SlipState → Out
act_out w i s Pin o = spend_out w i s Pinned o
act_out w i s Book o = spend_out w i s Booked o
act_out w i s Release o = spend_out w i s Released o
act_out w i s TearUp o = tear_out w i s o

abbrev give_out : World → ℕ → Act → Option Slip → Out
give_out w i a None = out NoSlip w
give_out w i a (Some s) = act_out w i s a (standing_of w.holds s)

abbrev out_of : World → Request → Out
out_of w (Hold d p) = hold_out w d p
out_of w (PickUp n) = pick_out w n (slice_get w.holds n)
out_of w (Give i a) = give_out w i a (slice_get w.hand i)

unpinned : (w : World) (n : ℕ) (o : Option Entry) → (option_map (λ e. e.state) o ≡ Some Pinned → ⊥) → pick_out w n o ≡ refusal w
unpinned w n None ne = refl
unpinned w n (Some e) ne = not_pinned _ (refusal w) (Some e.state) ne

unacted : (w : World) (i : ℕ) (s : Slip) (a : Act) → (standing_of w.holds s ≡ Some InHand → ⊥) → (a ≡ TearUp → ⊥)
    → act_out w i s a (standing_of w.holds s) ≡ refusal w
unacted w i s Pin ne other = not_in_hand _ (refusal w) (standing_of w.holds s) ne
unacted w i s Book ne other = not_in_hand _ (refusal w) (standing_of w.holds s) ne
unacted w i s Release ne other = not_in_hand _ (refusal w) (standing_of w.holds s) ne
unacted w i s TearUp ne other = absurd (other refl)

step_out : {w u : World} {r : Request} {a : Answer} → Step w r a u → out_of w r ≡ out a u
step_out {w} (Step.accepts s e lt) =
    cond-true _ _ _ (lt-ltb (length w.holds) most_holds lt) ∙ ap (λ (n : ℕ). accepted w (slip_of n s.depot s.pallets)) (sym e)
step_out {w} (Step.none_left le) = cond-false _ _ _ (le-ltb (length w.holds) most_holds le)
step_out {w} (Step.picks_up s e) = ap (pick_out w s.number) (stands w.holds s Pinned e)
step_out {w} (Step.not_pinned {n} ne) = unpinned w n (slice_get w.holds n) ne
step_out {w} (Step.pins {i} {s} at e) = ap (give_out w i Pin) at ∙ ap (act_out w i s Pin) e
step_out {w} (Step.books {i} {s} at e) = ap (give_out w i Book) at ∙ ap (act_out w i s Book) e
step_out {w} (Step.releases {i} {s} at e) = ap (give_out w i Release) at ∙ ap (act_out w i s Release) e
step_out {w} (Step.not_in_hand {i} {a} {s} at ne other) = ap (give_out w i a) at ∙ unacted w i s a ne other
step_out {w} (Step.tears_up {i} {s} at ne) = ap (give_out w i TearUp) at ∙ not_in_hand (refusal w) _ (standing_of w.holds s) ne
step_out {w} (Step.in_hand {i} {s} at e) = ap (give_out w i TearUp) at ∙ ap (act_out w i s TearUp) e
step_out {w} (Step.no_slip {i} {a} le) = ap (give_out w i a) (slice_get_past w.hand i le)

pub one_step : {w u u' : World} {r : Request} {a a' : Answer} → Step w r a u → Step w r a' u' → out a u ≡ out a' u'
one_step s t = sym (step_out s) ∙ step_out t

abbrev pub Same : List Answer → List Answer → World → World → Type 0
Same said said' u u' = (said ≡ said') × (u ≡ u')

pub ran_one : {w u : World} {rs : List Request} {said : List Answer} → Ran Step w rs said u → (v u' : World) (said' : List Answer) → v ≡ w → Ran Step v rs said' u' → Same said said' u u'
ran_one Ran.none v u' said' e Ran.none = (refl, sym e)
ran_one (Ran.more {c = r} s p) v u' said' e (Ran.more {t = m'} {a = a'} {said = rest} t q) =
    let one = one_step s (subst (λ (x : World). Step x r a' m') e t) in
    let then = ran_one p m' u' rest (sym (ap (λ (o : Out). o.after) one)) q in
    (λ i. (one i).answer ∷ then.0 i, then.1)
