-- One more time in a list of times, and what it adds to a test of them.
use Rattle.std.proofs.Common.{◌≡◌, ℕ, zero, suc, ◌<◌, Bool, true, false, ◌&&◌, ◌||◌, ◌≢◌, List, length, slice_set, replicate, refl, ap, sym, ◌∙◌, ⊎_elim, arith}
use Rattle.std.specs.Prelude.{◌==◌, Option, None}
use Rattle.std.proofs.lemmas.Bool.{cases_eq, eq-eqb, ne_eqb}
use Rattle.std.proofs.lemmas.Grind.{common_steps}
use Rattle.live_times.specs.Times.{time_of}

pub none_at : (n y : ℕ) → time_of (replicate n None) y ≡ None
none_at zero y = refl
none_at (suc n) zero = refl
none_at (suc n) (suc y) = none_at n y

pub time_set : (xs : List (Option ℕ)) (i y : ℕ) (v : Option ℕ) → i < length xs → i ≡ y → time_of (slice_set xs i v) y ≡ v
time_set xs i y v l e = grind (arith, common_steps)

pub time_kept : (xs : List (Option ℕ)) (i y : ℕ) (v : Option ℕ) → i ≢ y → time_of (slice_set xs i v) y ≡ time_of xs y
time_kept xs i y v n = grind (arith, common_steps)

or_assoc : (a b c : Bool) → ((a || b) || c) ≡ (a || (b || c))
or_assoc true b c = refl
or_assoc false b c = refl

or_false : (a : Bool) → a ≡ (a || false)
or_false true = refl
or_false false = refl

pub not_here : (i y : ℕ) (x b s a : Bool) → i ≢ y → x ≡ (b || s) → x ≡ (b || (s || ((i == y) && a)))
not_here i y x b s a n e = rw (ne_eqb i y n) (e ∙ ap (λ q. b || q) (or_false s))

pub one_more : (p : Option ℕ → Bool) (xs : List (Option ℕ)) (i j y : ℕ) (v : Option ℕ) (a b s : Bool) → i < length xs → i ≡ j
    → p v ≡ (p (time_of xs i) || a) → p (time_of xs y) ≡ (b || s) → p (time_of (slice_set xs i v) y) ≡ (b || (s || ((j == y) && a)))
one_more p xs i j y v a b s l ij e h =
    ⊎_elim
    (λ q. ap p (time_set xs i y v l q) ∙ e ∙ ap (λ j. p (time_of xs j) || a) q ∙ ap (λ u. u || a) h ∙ or_assoc b s a
    ∙ ap (λ u. b || (s || (u && a))) (sym (eq-eqb j y (sym ij ∙ q))))
    (λ n. ap p (time_kept xs i y v n) ∙ not_here j y _ b s a (λ q. n (ij ∙ q)) h)
    (cases_eq i y)
