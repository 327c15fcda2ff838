-- What legs bring to a place and take away from it: each place that they pass gets as much as it gives.
use Rattle.std.proofs.Common.{◌≡◌, ℕ, ◌+◌, ◌-◌, ◌<◌, ◌≤◌, Bool, true, false, cond, ◌&&◌, eqb, leb, ◌≢◌, List, [], ◌∷◌, length, refl, sym, ap, subst, ◌∙◌, ⊎_elim, arith}
use Rattle.std.proofs.lemmas.Bool.{cases_eq, cases_lt, eq-eqb, ne_eqb, le-leb, lt-leb}
use Rattle.flow.proofs.Sums.{total_zero, cond_none, cond_add}
use Rattle.timetable.specs.Plans.{Timetable, lane, departs, arriving, leaving}
use Rattle.timetable.proofs.Sums.{total_both, total_only}
use Rattle.run_sheet.specs.declared.leg.Leg.{Leg}
use Rattle.run_sheet.specs.Runs.{Goes, Even, carried}

-- what one leg carries
abbrev pub one : Leg → ℕ → ℕ → ℕ
one leg l t = cond (eqb leg.lane l && eqb leg.period t) leg.pallets 0

not_lane : (b c : Bool) (h v x : ℕ) → v ≢ h → cond b (cond (eqb h v && c) x 0) 0 ≡ 0
not_lane b c h v x ne = rw (ne_eqb h v (λ e. ne (sym e))) (cond_none b)

arrives_then : (b : Bool) (h period transit u x : ℕ) → cond (b && leb transit u) (cond (eqb h h && eqb period (u - transit)) x 0) 0 ≡ cond (b && eqb (period + transit) u) x 0
arrives_then false h period transit u x = refl
arrives_then true h period transit u x =
    rw (eq-eqb h h refl)
    (⊎_elim
    (λ early. rw (lt-leb transit u early, ne_eqb (period + transit) u (λ e. omega arith)) refl)
    (λ late. rw (le-leb transit u late)
    (⊎_elim
    (λ e. rw (eq-eqb period (u - transit) e, eq-eqb (period + transit) u (omega arith)) refl)
    (λ ne. rw (ne_eqb period (u - transit) ne, ne_eqb (period + transit) u (λ e. ne (omega arith))) refl)
    (cases_eq period (u - transit))))
    (cases_lt u transit))

leaves_then : (b : Bool) (departs' : ℕ → Bool) (h period u x : ℕ) → departs' period ≡ true → cond (b && departs' u) (cond (eqb h h && eqb period u) x 0) 0 ≡ cond (b && eqb period u) x 0
leaves_then false departs' h period u x d = refl
leaves_then true departs' h period u x d =
    rw (eq-eqb h h refl)
    (⊎_elim
    (λ e. rw (subst (λ (v : ℕ). departs' v ≡ true) e d, eq-eqb period u e) refl)
    (λ ne. rw (ne_eqb period u ne) (cond_none (departs' u)))
    (cases_eq period u))

module _ (S : Timetable) where
  -- One plan is two others together.
  abbrev pub Together : (ℕ → ℕ → ℕ) → (ℕ → ℕ → ℕ) → (ℕ → ℕ → ℕ) → Type 0
  Together p q c = (l t : ℕ) → l < length S.lanes → t ≤ S.horizon → q l t + c l t ≡ p l t

  pub arriving_together : (p q c : ℕ → ℕ → ℕ) → Together p q c → (y u : ℕ) → u ≤ S.horizon → arriving S p y u ≡ arriving S q y u + arriving S c y u
  arriving_together p q c e y u le =
      total_both (length S.lanes) _ _ _
      (λ l lt. ap (λ (n : ℕ). cond (eqb (lane S l).to y && leb (lane S l).transit u) n 0) (sym (e l (u - (lane S l).transit) lt (omega arith))) ∙ cond_add _ _ _)

  pub leaving_together : (p q c : ℕ → ℕ → ℕ) → Together p q c → (y u : ℕ) → u ≤ S.horizon → leaving S p y u ≡ leaving S q y u + leaving S c y u
  leaving_together p q c e y u le =
      total_both (length S.lanes) _ _ _
      (λ l lt. ap (λ (n : ℕ). cond (eqb (lane S l).from y && departs S l u) n 0) (sym (e l u lt le)) ∙ cond_add _ _ _)

  arriving_one : (leg : Leg) → leg.lane < length S.lanes → (y u : ℕ) → arriving S (one leg) y u ≡ cond (eqb (lane S leg.lane).to y && eqb (leg.period + (lane S leg.lane).transit) u) leg.pallets 0
  arriving_one leg lt y u =
      total_only (length S.lanes) leg.lane _ lt (λ v l ne. not_lane _ _ leg.lane v leg.pallets ne)
      ∙ arrives_then (eqb (lane S leg.lane).to y) leg.lane leg.period (lane S leg.lane).transit u leg.pallets

  leaving_one : (leg : Leg) → leg.lane < length S.lanes → departs S leg.lane leg.period ≡ true → (y u : ℕ) → leaving S (one leg) y u ≡ cond (eqb (lane S leg.lane).from y && eqb leg.period u) leg.pallets 0
  leaving_one leg lt d y u =
      total_only (length S.lanes) leg.lane _ lt (λ v l ne. not_lane _ _ leg.lane v leg.pallets ne)
      ∙ leaves_then (eqb (lane S leg.lane).from y) (departs S leg.lane) leg.lane leg.period u leg.pallets d

  arriving_none : (y u : ℕ) → arriving S (λ l t. 0) y u ≡ 0
  arriving_none y u = total_zero (length S.lanes) _ (λ l lt. cond_none _)

  leaving_none : (y u : ℕ) → leaving S (λ l t. 0) y u ≡ 0
  leaving_none y u = total_zero (length S.lanes) _ (λ l lt. cond_none _)

  -- x pallets at the place y@t
  abbrev pub placed : ℕ → ℕ → ℕ → ℕ → ℕ → ℕ
  placed x y t v u = cond (eqb y v && eqb t u) x 0

  -- Legs take x pallets from the place that they leave to the one that they reach.
  pub balance : (x : ℕ) (legs : List Leg) (y t y' t' : ℕ) → Goes S y t legs y' t' → Even x legs → (v u : ℕ) → u ≤ S.horizon
      → arriving S (carried legs) v u + placed x y t v u ≡ leaving S (carried legs) v u + placed x y' t' v u
  balance x [] y t y' t' (e, f) even v u le = rw (e, f) (omega (arith, arriving_none v u, leaving_none v u))
  balance x (leg ∷ legs) y t y' t' (lt, from, at, d, goes) (same, even) v u le =
      let a = arriving_one leg lt v u in
      let b = leaving_one leg lt d v u in
      let both : Together (carried (leg ∷ legs)) (one leg) (carried legs) = λ l w k m. refl in
      let more = arriving_together (carried (leg ∷ legs)) (one leg) (carried legs) both v u le in
      let less = leaving_together (carried (leg ∷ legs)) (one leg) (carried legs) both v u le in
      let rest = balance x legs (lane S leg.lane).to (leg.period + (lane S leg.lane).transit) y' t' goes even v u le in
      let a' : arriving S (one leg) v u ≡ placed x (lane S leg.lane).to (leg.period + (lane S leg.lane).transit) v u = rw (sym same) a in
      let b' : leaving S (one leg) v u ≡ placed x y t v u = rw (sym from, sym at, sym same) b in
      omega (arith, more, less, rest, a', b')
