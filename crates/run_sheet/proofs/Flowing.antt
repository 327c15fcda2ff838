-- Loads that flow: where some are left they leave the origin, where they end there is a depot, and with a run off they flow on.
use Rattle.std.proofs.Common.{◌≡◌, ℕ, zero, suc, ◌+◌, ◌-◌, ◌<◌, ◌≤◌, true, ◌&&◌, eqb, leb, ltb, ◌≢◌, List, length, refl, sym, subst, ◌∙◌, ⊎_elim, arith}
use Rattle.std.proofs.lemmas.Bool.{cases_eq, cases_lt, cases_Bool, eq-eqb, eqb-true, ne_eqb, ltb-true, leb-true, and_parts, and_from, and_left, both_ways, cond-false}
use Rattle.timetable.specs.Plans.{Timetable, Sound, lane, departs, is_depot, arriving, leaving}
use Rattle.timetable.proofs.Sums.{some_below_at, counted_some, counted_from}
use Rattle.board.specs.States.{State, day}
use Rattle.board.specs.Questions.{has_departure}
use Rattle.run_sheet.specs.declared.leg.Leg.{Leg}
use Rattle.run_sheet.specs.Lists.{Flows, Idle}
use Rattle.run_sheet.specs.Runs.{Goes, Even, carried}
use Rattle.run_sheet.specs.Finding.{LeavesNone}
use Rattle.run_sheet.proofs.Carrying.{Together, placed, arriving_together, leaving_together, balance}

module _ (s : State) (sound : Sound (day s)) where
  abbrev S : Timetable
  S = day s

  depot_no_origin : (v : ℕ) → is_depot S v ≡ true → v ≢ S.origin
  depot_no_origin v e q =
      let (d, lt, at) = some_below_at (length S.depots) _ e in
      (sound.yards d lt).1 (eqb-true _ _ at ∙ q)

  -- a load departs
  pub departs_loaded : (p : ℕ → ℕ → ℕ) → Idle s p → (l t : ℕ) → l < 96 → t ≤ S.horizon → 0 < p l t → (l < length S.lanes) × (departs S l t ≡ true)
  departs_loaded p idle l t lt le some =
      ⊎_elim
      (λ e. let (a, b) = and_parts (ltb l (length S.lanes)) (departs S l t) e in (ltb-true _ _ a, b))
      (λ e. absurd (omega (arith, idle l t lt le e)))
      (cases_Bool (has_departure s l t))

  module _ (p : ℕ → ℕ → ℕ) (flows : Flows S p) (idle : Idle s p) where
    -- what leaves a place other than the origin has come there
    came : (y t : ℕ) → t ≤ S.horizon → y ≢ S.origin → leaving S p y t ≤ arriving S p y t
    came y t le away =
        ⊎_elim (λ e. flows.1 y t le e) (λ e. omega (arith, flows.0 y t le away e)) (cases_Bool (is_depot S y))

    -- with nothing from the origin there are no loads at all
    abbrev NoneBefore : ℕ → Type 0
    NoneBefore n = (t : ℕ) → t < n → t ≤ S.horizon → (l : ℕ) → l < 96 → p l t ≡ 0

    not_loaded : ((t : ℕ) → t ≤ S.horizon → LeavesNone s p S.origin t) → (t : ℕ) → t ≤ S.horizon → NoneBefore t → (l : ℕ) → l < 96 → 0 < p l t → ⊥
    not_loaded none t le earlier l lt some =
        let (one, goes) = departs_loaded p idle l t lt le some in
        ⊎_elim
        (λ here. none t le l (one, here, some))
        (λ away.
        let leave : 0 < leaving S p (lane S l).from t = counted_from (length S.lanes) (λ v. eqb (lane S v).from (lane S l).from && departs S v t) (λ v. p v t) l one (and_from _ _ (eq-eqb _ _ refl) goes) some in
        let arrive : 0 < arriving S p (lane S l).from t = omega (arith, came (lane S l).from t le away) in
        let (v, two, test, more) = counted_some (length S.lanes) (λ v. eqb (lane S v).to (lane S l).from && leb (lane S v).transit t) (λ v. p v (t - (lane S v).transit)) arrive in
        let late : (lane S v).transit ≤ t = leb-true (lane S v).transit t (and_parts (eqb (lane S v).to (lane S l).from) (leb (lane S v).transit t) test).1 in
        let z = earlier (t - (lane S v).transit) (omega (arith, (sound.transits v two).0)) (omega arith) v (omega (arith, sound.few_lanes)) in
        omega arith)
        (cases_eq (lane S l).from S.origin)

    none_before : ((t : ℕ) → t ≤ S.horizon → LeavesNone s p S.origin t) → (n : ℕ) → NoneBefore n
    none_before none zero t below le l lt = absurd (omega arith)
    none_before none (suc n) t below le l lt =
        let earlier : NoneBefore t = λ t' b. none_before none n t' (omega arith) in
        ⊎_elim (λ some. absurd (not_loaded none t le earlier l lt some)) (λ z. omega arith) (cases_lt 0 (p l t))

    pub none_left : ((t : ℕ) → t ≤ S.horizon → LeavesNone s p S.origin t) → (l t : ℕ) → l < 96 → t ≤ S.horizon → p l t ≡ 0
    none_left none l t lt le = none_before none (suc t) t (omega arith) le l lt

    -- nothing leaves where no lane is loaded
    pub leaving_nothing : (y t : ℕ) → LeavesNone s p y t → leaving S p y t ≡ 0
    leaving_nothing y t none = ⊎_elim (λ some. absurd (lane_some some)) (λ z. omega arith) (cases_lt 0 (leaving S p y t))
      where
        lane_some : 0 < leaving S p y t → ⊥
        lane_some some =
            let (v, lt, test, more) = counted_some (length S.lanes) (λ v. eqb (lane S v).from y && departs S v t) (λ v. p v t) some in
            none v (lt, eqb-true _ _ (and_parts _ _ test).0, more)

    -- pallets that go no further are at a depot
    pub depot_at_end : (y t : ℕ) → t ≤ S.horizon → y ≢ S.origin → 0 < arriving S p y t → leaving S p y t ≡ 0 → is_depot S y ≡ true
    depot_at_end y t le away some none =
        ⊎_elim (λ e. e) (λ e. absurd (omega (arith, flows.0 y t le away e))) (cases_Bool (is_depot S y))

    -- with a run off, the rest flows on
    module _ (q : ℕ → ℕ → ℕ) (x : ℕ) (legs : List Leg) (start y' t' : ℕ) (goes : Goes S S.origin start legs y' t') (even : Even x legs) (end : is_depot S y' ≡ true) (stops : leaving S p y' t' ≡ 0) (off : Together S p q (carried legs)) where
      balanced : (v u : ℕ) → u ≤ S.horizon → v ≢ S.origin → arriving S (carried legs) v u ≡ leaving S (carried legs) v u + placed S x y' t' v u
      balanced v u le away =
          let z : placed S x S.origin start v u ≡ 0 = cond-false _ x 0 (and_left _ _ (ne_eqb S.origin v (λ e. away (sym e)))) in
          omega (arith, balance S x legs S.origin start y' t' goes even v u le)

      pub flows_on : Flows S q
      flows_on = (
        (λ v u le away no.
            let z : placed S x y' t' v u ≡ 0 = cond-false _ x 0 (and_left _ _ (ne_eqb y' v (λ e. both_ways _ no (subst (λ (w : ℕ). is_depot S w ≡ true) e end)))) in
            omega (arith, balanced v u le away, arriving_together S p q (carried legs) off v u le, leaving_together S p q (carried legs) off v u le, flows.0 v u le away no)),
        (λ v u le yes'.
            ⊎_elim
            (λ here. let (a, b) = and_parts (eqb y' v) (eqb t' u) here in
            let w : leaving S p v u ≡ 0 = subst (λ (n : ℕ). leaving S p n u ≡ 0) (eqb-true _ _ a) (subst (λ (n : ℕ). leaving S p y' n ≡ 0) (eqb-true _ _ b) stops) in
            omega (arith, leaving_together S p q (carried legs) off v u le))
            (λ away. let z : placed S x y' t' v u ≡ 0 = cond-false _ x 0 away in
            omega (arith, balanced v u le (depot_no_origin v yes'), arriving_together S p q (carried legs) off v u le, leaving_together S p q (carried legs) off v u le, flows.1 v u le yes'))
            (cases_Bool (eqb y' v && eqb t' u))),
      )
