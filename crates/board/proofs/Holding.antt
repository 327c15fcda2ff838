-- What a hold leaves of what is invariant on a board, and what it answers.
use Rattle.std.proofs.Common.{◌≡◌, ℕ, ◌<◌, ◌≤◌, Bool, true, false, List, [], ◌∷◌, ◌++◌, length, Some, None, Ok, Err, Option, Result, sym, refl, ap, ◌∙◌, subst, inl, inr, arith}
use Rattle.std.specs.Prelude.{slice_index, is_err, ◌==◌, if◌then◌else◌}
use Rattle.std.proofs.lemmas.Bool.{eqb-true, true_from_ne_false}
use Rattle.std.proofs.lemmas.List.Elements.{All-push}
use Rattle.refusals.specs.declared.Refusal.{Refusal}
use Rattle.refusals.specs.declared.Refusal.TheVariants.{NoPlan}
use Rattle.refusals.specs.Refusals.{rule, Decides}
use Rattle.refusals.proofs.Decided.{Clear, clear, decides_next}
use Rattle.roads.specs.Grids.{Grid, timetable}
use Rattle.timetable.specs.Plans.{Delivers, Servable, is_depot}
use Rattle.slips.specs.declared.moves.SlipState.TheVariants.{InHand}
use Rattle.slips.specs.declared.refusal.SlipRefusal.{SlipRefusal}
use Rattle.slips.specs.declared.slip.Slip.{Slip}
use Rattle.slips.specs.declared.table.Entry.{Entry}
use Rattle.slips.specs.declared.table.SlipTable.{SlipTable}
use Rattle.slips.specs.Holds.{holds, entry_of, Held}
use Rattle.slips.specs.Owed.{owed_at, count_at}
use Rattle.slips.specs.Slips.{slip_of}
use Rattle.slips.proofs.Owing.{owed_push}
use Rattle.board.specs.Calls.{Checked, Holds}
use Rattle.board.specs.Owing.{owed_by, owed_with}
use Rattle.board.specs.Planned.{Planned, plan_in}
use Rattle.board.specs.Rules.{Short, holding_checks, holding_rules}
use Rattle.board.specs.States.{State, held}
use Rattle.board.specs.declared.loads.Loads.{Loads}
use Rattle.board.proofs.Finding.{delivers_servable, planned, not_planned}
use Rattle.board.proofs.Kept.{Bounded, Kept}
use Rattle.board.proofs.Lists.{by_depot}

-- The checks pass, and a plan is looked for that delivers what is owed with the hold.
module _ (g : Grid) (t : SlipTable) (yard pallets : ℕ) (checked : Checked (holding_checks (record { grid = g; holds = holds t }) yard pallets) (Ok tt)) where
  abbrev before : State
  before = record { grid = g; holds = holds t }

  -- the hold as the table has it
  abbrev next : Entry
  next = entry_of (slip_of (length (holds t)) yard pallets) InHand

  owing_next : owed_by g.depots (holds t ++ next ∷ []) ≡ owed_with g.depots (holds t) yard pallets
  owing_next = by_depot _ _ (λ y. owed_push y (holds t) next) g.depots

  checks : Clear (holding_checks before yard pallets)
  checks = clear (holding_checks before yard pallets) checked

  low : pallets ≤ 9999
  low = let high : 9999 < pallets → ⊥ = λ l. checks.1.0 (inr l) in omega (arith, high)

  named : is_depot (timetable g) yard ≡ true
  named = true_from_ne_false _ checks.1.1.1.0

  -- whether there is one decides
  decided : (o : Option Refusal) → Decides (rule NoPlan (Short (held before yard pallets)) ∷ []) o → Decides (holding_rules before yard pallets) o
  decided o d = decides_next (holding_checks before yard pallets) (rule NoPlan (Short (held before yard pallets)) ∷ []) o checked d

  module _ (given : List ℕ) (owing : given ≡ owed_with g.depots (holds t) yard pallets) (loads loads' : Loads) (r : Result Unit Refusal)
      (searched : Planned g given loads r loads') where
    -- there is none
    pub hold_short : is_err r ≡ true → Holds before yard pallets (Err NoPlan) before
    hold_short failed =
        let (none, same) = not_planned g given loads loads' r searched failed in
        let short = subst (λ (owed : List ℕ). Servable (timetable g) (slice_index owed) → ⊥) (owing ∙ sym owing_next) none in
        (decided (Some NoPlan) (inl (short, refl)), refl)

    -- there is one, and the slip is given
    module _ (t' : SlipTable) (slip : Slip) (gives : Held t yard pallets (Ok slip) t') (found : is_err r ≡ false) where
      holds_next : holds t' ≡ holds t ++ next ∷ []
      holds_next = gives.2 ∙ ap (λ (u : Slip). holds t ++ entry_of u InHand ∷ []) gives.1

      pub hold_done : Holds before yard pallets (Ok slip) (record { grid = g; holds = holds t' })
      hold_done =
          let (feasible, delivers) = planned g given loads loads' r searched found in
          let servable = subst (λ (owed : List ℕ). Servable (timetable g) (slice_index owed)) (owing ∙ sym owing_next) (delivers_servable feasible delivers) in
          (decided None (inr ((λ short. short servable), refl)), gives.1, ap (λ (hs : List Entry). record { grid = g; holds = hs }) holds_next)

      -- the new hold is owed at its depot alone
      owed_next : (y : ℕ) → is_depot (timetable g) y ≡ false → owed_at y (holds t) ≡ 0 → owed_at y (holds t') ≡ 0
      owed_next y none nothing =
          ap (owed_at y) holds_next ∙ owed_push y (holds t) next
          ∙ (let elsewhere : count_at y yard pallets ≡ 0 = away (yard == y) refl in omega (arith, elsewhere, nothing))
        where
          away : (b : Bool) → (yard == y) ≡ b → (if b then pallets else 0) ≡ 0
          away false e = refl
          away true e = let c : true ≡ false = sym (subst (λ (z : ℕ). is_depot (timetable g) z ≡ true) (eqb-true yard y e) named) ∙ none in cc

      given_kept : Kept g (holds t) (plan_in loads) → Kept g (holds t') (plan_in loads')
      given_kept k =
          let (feasible, delivers) = planned g given loads loads' r searched found in
          let owing_now = owing ∙ sym owing_next ∙ ap (owed_by g.depots) (sym holds_next) in
          record {
            feasible = feasible;
            delivers = subst (λ (owed : List ℕ). Delivers (timetable g) (slice_index owed) (plan_in loads')) owing_now delivers;
            bounded = subst Bounded (sym holds_next) (All-push (λ (e : Entry). e.pallets ≤ 9999) (holds t) next k.bounded low);
            promised = λ y none. owed_next y none (k.promised y none);
          }

    -- while a number is left, a slip is given
    pub hold_kept : (t' : SlipTable) (answer : Result Slip SlipRefusal) → Held t yard pallets answer t' → is_err r ≡ false
        → Kept g (holds t) (plan_in loads) → Kept g (holds t') (plan_in loads')
    hold_kept t' (Ok slip) gives found = given_kept t' slip gives found
    hold_kept t' (Err why) gives found = absurd (checks.1.1.0 gives.0)
