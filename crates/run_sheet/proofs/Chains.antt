-- Legs one after another: one more at the end, where they end, and with other pallets.
use Rattle.std.proofs.Common.{◌≡◌, ℕ, suc, ◌+◌, ◌-◌, ◌<◌, ◌≤◌, true, ◌&&◌, eqb, leb, ◌≢◌, ◌⊎◌, List, [], ◌∷◌, ◌++◌, length, min, refl, sym, subst, ◌∙◌, inl, inr, ⊎_elim, arith}
use Rattle.std.proofs.lemmas.Bool.{cases_lt, eq-eqb, le-leb, leb-true, and_from}
use Rattle.std.proofs.lemmas.List.{length-append}
use Rattle.timetable.specs.Plans.{Timetable, Sound, lane, departs, arriving}
use Rattle.timetable.proofs.Sums.{counted_from}
use Rattle.board.specs.States.{State, day}
use Rattle.run_sheet.specs.declared.leg.Leg.{Leg}
use Rattle.run_sheet.specs.Lists.{Idle}
use Rattle.run_sheet.specs.Runs.{Goes, Even}
use Rattle.run_sheet.specs.Finding.{Leaves, LeavesNone, StartsAt, Bears, Least, Found}
use Rattle.run_sheet.specs.Taking.{Ready, with_pallets}
use Rattle.run_sheet.proofs.Flowing.{departs_loaded}

module _ (S : Timetable) where
  goes_push : (legs : List Leg) (leg : Leg) (y t y' t' : ℕ) → Goes S y t legs y' t' → leg.lane < length S.lanes → (lane S leg.lane).from ≡ y' → leg.period ≡ t' → departs S leg.lane leg.period ≡ true
      → Goes S y t (legs ++ leg ∷ []) (lane S leg.lane).to (leg.period + (lane S leg.lane).transit)
  goes_push [] leg y t y' t' (e, f) lt from at d = (lt, from ∙ sym e, at ∙ sym f, d, (refl, refl))
  goes_push (first ∷ legs) leg y t y' t' (a, b, c, d', goes) lt from at d = (a, b, c, d', goes_push legs leg _ _ y' t' goes lt from at d)

  pub goes_with : (x : ℕ) (legs : List Leg) (y t y' t' : ℕ) → Goes S y t legs y' t' → Goes S y t (with_pallets x legs) y' t'
  goes_with x [] y t y' t' e = e
  goes_with x (leg ∷ legs) y t y' t' (a, b, c, d, goes) = (a, b, c, d, goes_with x legs _ _ y' t' goes)

pub even_with : (x : ℕ) (legs : List Leg) → Even x (with_pallets x legs)
even_with x [] = tt
even_with x (leg ∷ legs) = (refl, even_with x legs)

pub length_with : (x : ℕ) (legs : List Leg) → length (with_pallets x legs) ≡ length legs
length_with x [] = refl
length_with x (leg ∷ legs) = omega (arith, length_with x legs)

module _ (p : ℕ → ℕ → ℕ) where
  bears_push : (x : ℕ) (legs : List Leg) (leg : Leg) → Bears p x legs → x ≤ p leg.lane leg.period → Bears p x (legs ++ leg ∷ [])
  bears_push x [] leg b le = (le, tt)
  bears_push x (first ∷ legs) leg (a, b) le = (a, bears_push x legs leg b le)

  bears_less : (x x' : ℕ) (legs : List Leg) → x' ≤ x → Bears p x legs → Bears p x' legs
  bears_less x x' [] le b = tt
  bears_less x x' (leg ∷ legs) le (a, b) = (omega arith, bears_less x x' legs le b)

  least_push : (x : ℕ) (legs : List Leg) (leg : Leg) → Least p x legs → Least p x (legs ++ leg ∷ [])
  least_push x [] leg l = absurd l
  least_push x (first ∷ legs) leg (inl e) = inl e
  least_push x (first ∷ legs) leg (inr l) = inr (least_push x legs leg l)

  least_last : (x : ℕ) (legs : List Leg) (leg : Leg) → p leg.lane leg.period ≡ x → Least p x (legs ++ leg ∷ [])
  least_last x [] leg e = inl e
  least_last x (first ∷ legs) leg e = inr (least_last x legs leg e)

  pub least_some : (x : ℕ) (legs : List Leg) → Least p x legs → 0 < length legs
  least_some x [] l = absurd l
  least_some x (leg ∷ legs) l = omega arith

-- a way so far
pub record Following (s : State) (p : ℕ → ℕ → ℕ) (start : ℕ) (legs : List Leg) (yard period x : ℕ) : Type 0 where
  pub goes : Goes (day s) s.grid.origin start legs yard period
  pub bears : Bears p x legs
  pub least : ((legs ≡ []) × (yard ≡ s.grid.origin) × (period ≡ start) × ((l t : ℕ) → p l t ≤ x)) ⊎ Least p x legs
  pub some : 0 < x
  pub within : period ≤ s.grid.horizon
  pub few : length legs + start ≤ period

module _ (s : State) (sound : Sound (day s)) (p : ℕ → ℕ → ℕ) where
  abbrev S : Timetable
  S = day s

  pub followed : (start x : ℕ) → 0 < x → ((l t : ℕ) → p l t ≤ x) → start ≤ s.grid.horizon → (legs : List Leg) → legs ≡ [] → Following s p start legs s.grid.origin start x
  followed start x some most within legs e =
      rw e (record { goes = (refl, refl); bears = tt; least = inl (refl, refl, refl, most); some = some; within = within; few = omega arith })

  module _ (idle : Idle s p) (start : ℕ) (legs : List Leg) (yard period x : ℕ) (way : Following s p start legs yard period x) where
    pub goes_on : (leg : Leg) → Leaves s p yard period leg.lane → leg.period ≡ period → (load : ℕ) → load ≡ p leg.lane period
        → Following s p start (legs ++ leg ∷ []) (lane S leg.lane).to (period + (lane S leg.lane).transit) (min x load)
    goes_on leg (lt, from, more) at load e =
        let (one, d) = departs_loaded s sound p idle leg.lane period (omega (arith, lt, sound.few_lanes)) way.within more in
        let arrives = leb-true _ _ d in
        let d' : departs S leg.lane leg.period ≡ true = subst (λ (t : ℕ). departs S leg.lane t ≡ true) (sym at) d in
        let e' : load ≡ p leg.lane leg.period = subst (λ (t : ℕ). load ≡ p leg.lane t) (sym at) e in
        record {
          goes = subst (λ (t : ℕ). Goes S S.origin start (legs ++ leg ∷ []) (lane S leg.lane).to (t + (lane S leg.lane).transit)) at (goes_push S legs leg S.origin start yard period way.goes lt from at d');
          bears = bears_push p (min x load) legs leg (bears_less p x (min x load) legs (omega arith) way.bears) (omega (arith, e'));
          least = inr (⊎_elim
              (λ smaller. let z : min x load ≡ load = omega arith in rw z (least_last p load legs leg (sym e')))
              (λ larger. let z : min x load ≡ x = omega arith in rw z
              (⊎_elim (λ none. least_last p x legs leg (omega (arith, none.3 leg.lane leg.period, e'))) (λ l. least_push p x legs leg l) way.least))
              (cases_lt load x));
          some = omega (arith, way.some);
          within = arrives;
          few = omega (arith, length-append legs (leg ∷ []), way.few, (sound.transits leg.lane lt).0);
        }

    pub found : StartsAt s p start → LeavesNone s p yard period → Found s p start legs x
    found starts none = record {
      yard = yard;
      end = period;
      goes = way.goes;
      bears = way.bears;
      least = ⊎_elim
          (λ e. absurd (none starts.1 (let l = starts.2 in (l.0, l.1 ∙ sym e.1, subst (λ (t : ℕ). 0 < p starts.1 t) (sym e.2) l.2))))
          (λ l. l)
          way.least;
      some = way.some;
      within = way.within;
      stops = none;
      few = omega (arith, way.few, way.within);
    }

  -- pallets arrive where legs end
  pub arrive_at_end : (x : ℕ) (legs : List Leg) (y t y' t' : ℕ) → Goes S y t legs y' t' → Bears p x legs → 0 < x → 0 < length legs → (0 < arriving S p y' t') × (y' ≢ S.origin)
  arrive_at_end x [] y t y' t' g b some lt = absurd (omega arith)
  arrive_at_end x (leg ∷ []) y t y' t' (lt, from, at, d, (e, f)) (b, _) some more =
      let k : ℕ = (lane S leg.lane).transit in
      let back : t' - k ≡ leg.period = omega arith in (
        counted_from (length S.lanes) (λ v. eqb (lane S v).to y' && leb (lane S v).transit t') (λ v. p v (t' - (lane S v).transit)) leg.lane lt
            (and_from _ _ (eq-eqb _ _ e) (le-leb _ _ (omega arith)))
            (rw back (omega arith)),
        λ q. (sound.outward leg.lane lt).0 (e ∙ q),
      )
  arrive_at_end x (leg ∷ next ∷ legs) y t y' t' (lt, from, at, d, goes) (b, bears) some more = arrive_at_end x (next ∷ legs) _ _ y' t' goes bears some (omega arith)

  pub ready : (x : ℕ) (legs : List Leg) (y t y' t' t₀ : ℕ) → Goes S y t legs y' t' → Bears p x legs → t₀ ≤ t → Ready s p x t₀ legs
  ready x [] y t y' t' t₀ g b le = tt
  ready x (leg ∷ legs) y t y' t' t₀ (lt, from, at, d, goes) (b, bears) le =
      (omega arith, omega (arith, leb-true _ _ d), omega (arith, lt, sound.few_lanes), b, ready x legs _ _ y' t' (suc leg.period) goes bears (omega (arith, (sound.transits leg.lane lt).0)))
