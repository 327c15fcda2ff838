-- The set bits of a number are counted and found by the test that set them.
use Rattle.std.proofs.Common.{◌≡◌, ℕ, zero, suc, ◌+◌, ◌-◌, ◌*◌, ◌%◌, ◌^◌, ◌<◌, ◌≤◌, Bool, true, false, cond, min, bit_or, w64, refl, sym, ap, ◌∙◌, ⊎_elim, arith}
use Rattle.std.specs.Prelude.{count_ones}
use Rattle.std.specs.Int.{bit_at, trailing_zeros}
use Rattle.std.proofs.lemmas.Nat.{ones_cat, or_block, one_shl}
use Rattle.std.proofs.lemmas.Nat.Bits.{bit_at_cat_low, bit_at_cat_high, bit_at_above, bit_at-zero, bit_at-trailing_zeros}
use Rattle.std.proofs.lemmas.Bool.{cases_lt}
use Rattle.std.proofs.Math.Nat.{pow-suc, pow-le-pow_right}
use Rattle.std.specs.Int.Bits.{or_zero_l, or_zero_r}
use lib.Count.{ones, count_trailing_zeros}
use Rattle.flow.specs.Network.{total}
use Rattle.cut_sheet.specs.Bits.{bits_of}

pow_more : (n : ℕ) → 2 ^ suc n ≡ 2 * 2 ^ n
pow_more n = omega (arith, pow-suc 2 n)

one_bit : (b : Bool) (n : ℕ) → cond b 1 0 * 2 ^ n ≤ 2 ^ n
one_bit true n = omega arith
one_bit false n = omega arith

count_bit : (b : Bool) → count_ones (cond b 1 0) ≡ cond b 1 0
unfolding ones
count_bit true = refl
count_bit false = refl

bit_here : (b : Bool) → bit_at (cond b 1 0) 0 ≡ cond b 1 0
bit_here true = refl
bit_here false = refl

all_zeros : count_trailing_zeros 64 0 ≡ 64
unfolding count_trailing_zeros
all_zeros = refl

module _ (p : ℕ → Bool) where
  pub bits_below : (n : ℕ) → bits_of p n < 2 ^ n
  unfolding bits_of
  bits_below zero = omega arith
  bits_below (suc n) = omega (arith, bits_below n, one_bit (p n) n, pow_more n)

  pub one_set : (n : ℕ) → n < 64 → p n ≡ true → bit_or (bits_of p n) (1 * 2 ^ n % 2 ^ 64) ≡ bits_of p (suc n)
  unfolding bits_of
  one_set n l e =
      let low : 0 < 2 ^ n = omega (arith, bits_below n) in
      let h : bit_or (0 * 2 ^ n + bits_of p n) (1 * 2 ^ n + 0) ≡ bit_or 0 1 * 2 ^ n + bit_or (bits_of p n) 0 = or_block n 0 1 (bits_of p n) 0 (bits_below n) low in
      rw (one_shl n 64 l, e)
      (let a : 0 * 2 ^ n + bits_of p n ≡ bits_of p n = omega arith in
      let b : 1 * 2 ^ n + 0 ≡ 2 ^ n = omega arith in
      let d : bit_or 0 1 * 2 ^ n + bit_or (bits_of p n) 0 ≡ 1 * 2 ^ n + bits_of p n = rw (or_zero_l 1, or_zero_r (bits_of p n)) refl in
      rw (a, b) at h ∙ d)

  pub one_left : (n : ℕ) → p n ≡ false → bits_of p n ≡ bits_of p (suc n)
  unfolding bits_of
  one_left n e = rw e (omega arith)

  pub ones_counted : (n : ℕ) → count_ones (bits_of p n) ≡ total n (λ t. cond (p t) 1 0)
  unfolding bits_of ones
  ones_counted zero = refl
  ones_counted (suc n) = omega (arith, ones_cat n (cond (p n) 1 0) (bits_of p n) (bits_below n), ones_counted n, count_bit (p n))

  pub bit_is : (n t : ℕ) → t < n → bit_at (bits_of p n) t ≡ cond (p t) 1 0
  unfolding bits_of
  bit_is zero t l = absurd (omega arith)
  bit_is (suc n) t l = ⊎_elim
      (λ low. bit_at_cat_low (cond (p n) 1 0) n (bits_of p n) t low ∙ bit_is n t low)
      (λ high. let e : t ≡ n = omega arith in rw e (bit_at_cat_high (cond (p n) 1 0) n (bits_of p n) n (bits_below n) (omega arith) ∙ (let z : n - n ≡ 0 = omega arith in rw z (bit_here (p n)))))
      (cases_lt t n)

  pub bits_same : (q : ℕ → Bool) (n : ℕ) → ((t : ℕ) → t < n → q t ≡ p t) → bits_of q n ≡ bits_of p n
  unfolding bits_of
  bits_same q zero e = refl
  bits_same q (suc n) e = rw (e n (omega arith)) (ap (λ (b : ℕ). cond (p n) 1 0 * 2 ^ n + b) (bits_same q n (λ t l. e t (omega arith))))

  not_set : (n t : ℕ) → t < n → bit_at (bits_of p n) t ≡ 0 → p t ≡ false
  not_set n t l e = by_bit (p t) (sym (bit_is n t l) ∙ e)
    where
      by_bit : (b : Bool) → cond {A = ℕ} b 1 0 ≡ 0 → b ≡ false
      by_bit true h = absurd (omega arith)
      by_bit false h = refl

  is_set : (n t : ℕ) → t < n → bit_at (bits_of p n) t ≡ 1 → p t ≡ true
  is_set n t l e = by_bit (p t) (sym (bit_is n t l) ∙ e)
    where
      by_bit : (b : Bool) → cond {A = ℕ} b 1 0 ≡ 1 → b ≡ true
      by_bit true h = refl
      by_bit false h = absurd (omega arith)

  -- the first of n periods that passes, or n
  abbrev pub FirstOf : ℕ → ℕ → Type 0
  FirstOf n f = ((t : ℕ) → t < f → p t ≡ false) × (f < n → p f ≡ true) × (f ≤ n)

  pub first_found : (n : ℕ) → n ≤ 48 → FirstOf n (min (trailing_zeros w64 (bits_of p n)) n)
  first_found n few = ⊎_elim some none (cases_lt 0 (bits_of p n))
    where
      fits : bits_of p n < 2 ^ 64
      fits = let few' : n ≤ 64 = omega arith in omega (arith, bits_below n, pow-le-pow_right {n = 2} (omega arith) few')

      some : 0 < bits_of p n → FirstOf n (min (trailing_zeros w64 (bits_of p n)) n)
      some l =
          let (high, set', clear) = bit_at-trailing_zeros w64 (bits_of p n) l fits in
          let z : ℕ = trailing_zeros w64 (bits_of p n) in
          let low : z < n = ⊎_elim (λ a. a) (λ a. let b : bit_at (bits_of p n) z ≡ 0 = bit_at_above (bits_of p n) n z (bits_below n) a in omega (arith, set')) (cases_lt z n) in
          let e : min z n ≡ z = omega arith in
          rw e ((λ t a. not_set n t (omega arith) (clear t a)), (λ a. is_set n z low set'), omega arith)

      none : bits_of p n ≤ 0 → FirstOf n (min (trailing_zeros w64 (bits_of p n)) n)
      none l =
          let z : bits_of p n ≡ 0 = omega arith in
          let long : count_trailing_zeros 64 0 ≡ 64 = all_zeros in
          let e : min 64 n ≡ n = omega arith in
          rw (z, long, e) ((λ t a. not_set n t a (rw z (bit_at-zero t))), (λ a. absurd (omega arith)), omega arith)
