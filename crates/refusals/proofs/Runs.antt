-- Runs, cut at any of their calls.
use Rattle.std.proofs.Common.{◌≡◌, ℕ, zero, suc, List, [], ◌∷◌, ◌++◌, take, drop, Some, refl, subst}
use Rattle.std.specs.List.{slice_get}
use Rattle.refusals.specs.Runs.{Ran}

module _ {S C A : Type 0} (Step : S → C → A → S → Type 0) where
  -- one call more, at the end
  pub ran_push : {s t u : S} {cs : List C} {said : List A} {c : C} {a : A} → Ran Step s cs said t → Step t c a u → Ran Step s (cs ++ c ∷ []) (said ++ a ∷ []) u
  ran_push Ran.none x = Ran.more x Ran.none
  ran_push (Ran.more y p) x = Ran.more y (ran_push p x)

  -- the state after the first k calls
  abbrev pub moment : {s u : S} {cs : List C} {said : List A} → Ran Step s cs said u → ℕ → S
  moment (Ran.none {s}) k = s
  moment (Ran.more {s} x p) zero = s
  moment (Ran.more x p) (suc k) = moment p k

  pub at_first : {s u : S} {cs : List C} {said : List A} (p : Ran Step s cs said u) → moment p 0 ≡ s
  at_first Ran.none = refl
  at_first (Ran.more x p) = refl

  pub before : {s u : S} {cs : List C} {said : List A} (p : Ran Step s cs said u) (k : ℕ) → Ran Step s (take k cs) (take k said) (moment p k)
  before Ran.none zero = Ran.none
  before Ran.none (suc k) = Ran.none
  before (Ran.more x p) zero = Ran.none
  before (Ran.more x p) (suc k) = Ran.more x (before p k)

  pub rest : {s u : S} {cs : List C} {said : List A} (p : Ran Step s cs said u) (k : ℕ) → Ran Step (moment p k) (drop k cs) (drop k said) u
  rest Ran.none zero = Ran.none
  rest Ran.none (suc k) = Ran.none
  rest (Ran.more x p) zero = Ran.more x p
  rest (Ran.more x p) (suc k) = rest p k

  -- what holds at the first state, and after each step, holds at each moment
  pub always : (P : S → Type 0) → ((s t : S) (c : C) (a : A) → Step s c a t → P t) → {s u : S} {cs : List C} {said : List A} (p : Ran Step s cs said u) → P s → (k : ℕ) → P (moment p k)
  always P after Ran.none h k = h
  always P after (Ran.more x p) h zero = h
  always P after (Ran.more {s} {t} {u} {c} {a} x p) h (suc k) = always P after p (after s t c a x) k

  -- what each step tells of its call, it tells of the call of each number
  pub each : (Q : S → C → A → Type 0) → ((s t : S) (c : C) (a : A) → Step s c a t → Q s c a)
      → {s u : S} {cs : List C} {said : List A} (p : Ran Step s cs said u) (k : ℕ) (c : C) (a : A) → slice_get cs k ≡ Some c → slice_get said k ≡ Some a → Q (moment p k) c a
  each Q tells Ran.none k c a e f = cc
  each Q tells (Ran.more {s} {t} {u} {c} {a} x p) zero d b e f =
      let g : c ≡ d = cc in
      let h : a ≡ b = cc in
      subst (λ (y : C). Q s y b) g (subst (λ (z : A). Q s c z) h (tells s t c a x))
  each Q tells (Ran.more x p) (suc k) d b e f = each Q tells p k d b e f
