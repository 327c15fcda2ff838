-- Loads are lowered leg by leg, and the legs are written.
use Rattle.std.proofs.Common.{◌≡◌, ℕ, zero, suc, ◌+◌, ◌-◌, ◌<◌, ◌≤◌, ◌≢◌, ◌⊎◌, List, [], ◌∷◌, ◌++◌, length, take, drop, set, get_or, refl, sym, ap, subst, ◌∙◌, inl, inr, ⊎_elim, arith, append_assoc, add-one, length-set}
use Rattle.std.proofs.lemmas.Bool.{cases_eq, eq-eqb, ne_eqb, and_left, and_right, cond-false}
use Rattle.std.proofs.lemmas.List.{get_or-set_same, get_or-set_other, take_more_set, drop-set-lt, append-nil}
use Rattle.std.proofs.lemmas.Nat.{same_from_place}
use Rattle.board.specs.States.{State}
use Rattle.run_sheet.specs.declared.leg.Leg.{Leg}
use Rattle.run_sheet.specs.Lists.{load_count, place_of, loads_of}
use Rattle.run_sheet.specs.Runs.{carried}
use Rattle.run_sheet.specs.Taking.{Ready, Taken, with_pallets}
use Rattle.run_sheet.proofs.Carrying.{one}
use Rattle.run_sheet.proofs.Loads.{load_low}

-- Of the legs some wait still; the others are written, and the loads have fallen along them.
pub record Lowering (s : State) (x : ℕ) (legs : List Leg) (xs xs' : List ℕ) (ls ls' : List Leg) (waiting : List Leg) (n : ℕ) : Type 0 where
  pub count : n + length waiting ≡ length legs
  pub written : take n ls' ++ with_pallets x waiting ≡ with_pallets x legs
  pub unwritten : drop n ls' ≡ drop n ls
  pub long : length ls' ≡ length ls
  pub fell : (l t : ℕ) → l < 96 → t ≤ s.grid.horizon → loads_of s xs' l t + carried (take n ls') l t ≡ loads_of s xs l t
  pub past : drop (load_count s) xs' ≡ drop (load_count s) xs
  pub loads : length xs' ≡ length xs
  pub ready : Ready s (loads_of s xs') x 0 waiting

carried_push : (legs : List Leg) (leg : Leg) (l t : ℕ) → carried (legs ++ leg ∷ []) l t ≡ carried legs l t + one leg l t
carried_push [] leg l t = omega arith
carried_push (first ∷ legs) leg l t = omega (arith, carried_push legs leg l t)

pub one_here : (leg : Leg) (l t : ℕ) → leg.lane ≡ l → leg.period ≡ t → one leg l t ≡ leg.pallets
one_here leg l t e f = rw (eq-eqb leg.lane l e, eq-eqb leg.period t f) refl

one_elsewhere : (leg : Leg) (l t : ℕ) → (leg.lane ≢ l) ⊎ (leg.period ≢ t) → one leg l t ≡ 0
one_elsewhere leg l t away = cond-false _ leg.pallets 0 (⊎_elim (λ ne. and_left _ _ (ne_eqb leg.lane l ne)) (λ ne. and_right _ _ (ne_eqb leg.period t ne)) away)

-- lowered before they leave, or not at all
ready_same : (s : State) (p q : ℕ → ℕ → ℕ) (x t t' : ℕ) (legs : List Leg) → t' ≤ t → ((l u : ℕ) → l < 96 → t ≤ u → u ≤ s.grid.horizon → q l u ≡ p l u) → Ready s p x t legs → Ready s q x t' legs
ready_same s p q x t t' [] le same r = tt
ready_same s p q x t t' (leg ∷ legs) le same (late, early, few, some, rest) =
    (omega arith, early, few, omega (arith, same leg.lane leg.period few late early), ready_same s p q x (suc leg.period) (suc leg.period) legs (omega arith) (λ l u a b c. same l u a (omega arith) c) rest)

drop_one : {X : Type 0} (n : ℕ) (xs : List X) → drop (suc n) xs ≡ drop 1 (drop n xs)
drop_one zero xs = refl
drop_one (suc n) [] = refl
drop_one (suc n) (x ∷ xs) = drop_one n xs

drop_more : {X : Type 0} (n : ℕ) (xs ys : List X) → drop n xs ≡ drop n ys → drop (n + 1) xs ≡ drop (n + 1) ys
drop_more n xs ys e = rw (add-one n) (drop_one n xs ∙ ap (drop 1) e ∙ sym (drop_one n ys))

module _ (s : State) (x : ℕ) (legs : List Leg) (xs xs' : List ℕ) (ls ls' : List Leg) (n : ℕ) (leg : Leg) (rest : List Leg) (so : Lowering s x legs xs xs' ls ls' (leg ∷ rest) n) (room : load_count s ≤ length xs) (slots : length legs ≤ length ls) where
  abbrev with' : Leg
  with' = record { lane = leg.lane; period = leg.period; pallets = x }

  abbrev place' : ℕ
  place' = place_of s leg.lane leg.period

  abbrev lower : List ℕ
  lower = set xs' place' (get_or xs' place' 0 - x)

  abbrev write : List Leg
  write = set ls' n with'

  low : place' < load_count s
  low = load_low s leg.lane leg.period so.ready.2 so.ready.1

  one_more : take (n + 1) write ≡ take n ls' ++ with' ∷ []
  one_more = take_more_set ls' n with' (omega (arith, so.count, so.long))

  at_place : loads_of s lower leg.lane leg.period ≡ loads_of s xs' leg.lane leg.period - x
  at_place = get_or-set_same xs' place' _ 0 (omega (arith, low, so.loads))

  elsewhere : (l t : ℕ) → t ≤ s.grid.horizon → (leg.lane ≢ l) ⊎ (leg.period ≢ t) → loads_of s lower l t ≡ loads_of s xs' l t
  elsewhere l t le away =
      get_or-set_other xs' place' (place_of s l t) _ 0
      (λ e. let w : t < suc s.grid.horizon = omega arith in
      let v : leg.period < suc s.grid.horizon = omega (arith, so.ready.1) in
      let (a, b) = same_from_place l t leg.lane leg.period (suc s.grid.horizon) w v e in
      ⊎_elim (λ ne. ne (sym a)) (λ ne. ne (sym b)) away)

  falls : (l t : ℕ) → l < 96 → t ≤ s.grid.horizon → loads_of s lower l t + carried (take (n + 1) write) l t ≡ loads_of s xs l t
  falls l t lt le =
      let push : carried (take (n + 1) write) l t ≡ carried (take n ls') l t + one with' l t = ap (λ (ks : List Leg). carried ks l t) one_more ∙ carried_push (take n ls') with' l t in
      let before = so.fell l t lt le in
      ⊎_elim
      (λ e. ⊎_elim
      (λ f. let here = one_here with' l t e f in
      let fell : loads_of s lower l t ≡ loads_of s xs' l t - x = subst (λ (k : ℕ). loads_of s lower k t ≡ loads_of s xs' k t - x) e (subst (λ (u : ℕ). loads_of s lower leg.lane u ≡ loads_of s xs' leg.lane u - x) f at_place) in
      let some : x ≤ loads_of s xs' l t = subst (λ (k : ℕ). x ≤ loads_of s xs' k t) e (subst (λ (u : ℕ). x ≤ loads_of s xs' leg.lane u) f so.ready.3) in
      omega (arith, push, before, here, fell, some))
      (λ ne. omega (arith, push, before, one_elsewhere with' l t (inr ne), elsewhere l t le (inr ne)))
      (cases_eq leg.period t))
      (λ ne. omega (arith, push, before, one_elsewhere with' l t (inl ne), elsewhere l t le (inl ne)))
      (cases_eq leg.lane l)

  pub lowered : Lowering s x legs xs lower ls write rest (n + 1)
  lowered = record {
    count = omega (arith, so.count);
    written = rw one_more (append_assoc (take n ls') (with' ∷ []) (with_pallets x rest) ∙ so.written);
    unwritten = drop-set-lt (n + 1) ls' n with' (omega arith) ∙ drop_more n ls' ls so.unwritten;
    long = length-set ls' n with' ∙ so.long;
    fell = falls;
    past = drop-set-lt (load_count s) xs' place' _ low ∙ so.past;
    loads = length-set xs' place' _ ∙ so.loads;
    ready = ready_same s (loads_of s xs') (loads_of s lower) x (suc leg.period) 0 rest (omega arith)
        (λ l u a b c. elsewhere l u c (inr (λ e. omega arith)))
        so.ready.4;
  }

pub all_taken : (s : State) (x : ℕ) (legs : List Leg) (xs xs' : List ℕ) (ls ls' : List Leg) (waiting : List Leg) (n : ℕ) → Lowering s x legs xs xs' ls ls' waiting n → waiting ≡ [] → Taken s x legs xs xs' ls ls' n
all_taken s x legs xs xs' ls ls' [] n so none =
    let written : take n ls' ≡ with_pallets x legs = sym (append-nil (take n ls')) ∙ so.written in
    record {
      count = omega (arith, so.count);
      written = written;
      unwritten = so.unwritten;
      fell = λ l t lt le. ap (λ (ks : List Leg). loads_of s xs' l t + carried ks l t) (sym written) ∙ so.fell l t lt le;
      past = so.past;
    }
all_taken s x legs xs xs' ls ls' (leg ∷ rest) n so none = cc
