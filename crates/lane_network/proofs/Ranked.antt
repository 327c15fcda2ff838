-- The ranks of the first depots.
use Rattle.std.proofs.Common.{◌≡◌, ℕ, ◌+◌, ◌<◌, Bool, cond, ◌||◌, eqb, List, length, length-set, get_or, set, replicate, Some, None, Option, refl, sym, ◌∙◌, subst, ⊎_elim, arith}
use Rattle.std.proofs.Math.Bool.{or-true, or-false}
use Rattle.std.proofs.Math.Numerals.{suc-eq-add-one}
use Rattle.std.proofs.lemmas.Bool.{cases_eq, cases_lt, eq-eqb, ne_eqb}
use Rattle.std.proofs.lemmas.List.{get_or-replicate, get_or_past, get_or-set_same, get_or-set_other}
use Rattle.timetable.specs.Plans.{Timetable, some_below, depot}

-- the first n depots have rank 0, and no other yard has a rank
pub record Ranked (S : Timetable) (n : ℕ) (ranks : List (Option ℕ)) : Type 0 where
  pub sized : length ranks ≡ 32
  pub ranked : (y : ℕ) → get_or ranks y None ≡ cond (some_below n (λ d. eqb (depot S d) y)) (Some 0) None

pub ranked_none : (S : Timetable) → Ranked S 0 (replicate 32 None)
ranked_none S = record { sized = refl; ranked = λ y. ⊎_elim (λ l. get_or-replicate 32 y None None l) (λ l. get_or_past (replicate 32 None) y None l) (cases_lt y 32) }

-- one more depot is given the rank
module _ (S : Timetable) (n : ℕ) (ranks : List (Option ℕ)) (so : Ranked S n ranks) (low : depot S n < 32) where
  abbrev more : List (Option ℕ)
  more = set ranks (depot S n) (Some 0)

  abbrev earlier : ℕ → Bool
  earlier y = some_below n (λ d. eqb (depot S d) y)

  here : (y : ℕ) → depot S n ≡ y → get_or more y None ≡ Some 0
  here y e = subst (λ (z : ℕ). get_or more z None ≡ Some 0) e (get_or-set_same ranks (depot S n) (Some 0) None (omega (arith, so.sized)))

  elsewhere : (y : ℕ) → (depot S n ≡ y → ⊥) → get_or more y None ≡ cond (earlier y) (Some 0) None
  elsewhere y ne = get_or-set_other ranks (depot S n) y (Some 0) None (λ e. ne (sym e)) ∙ so.ranked y

  next : (y : ℕ) → get_or more y None ≡ cond (earlier y || eqb (depot S n) y) (Some 0) None
  next y = ⊎_elim (λ e. rw (eq-eqb (depot S n) y e, or-true (earlier y)) (here y e)) (λ ne. rw (ne_eqb (depot S n) y ne, or-false (earlier y)) (elsewhere y ne)) (cases_eq (depot S n) y)

  pub ranked_more : Ranked S (n + 1) more
  ranked_more = subst (λ (k : ℕ). Ranked S k more) (suc-eq-add-one n) (record { sized = length-set ranks (depot S n) (Some 0) ∙ so.sized; ranked = next })
