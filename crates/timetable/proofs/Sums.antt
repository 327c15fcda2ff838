-- Tests and sums over the numbers below a bound: which one passes or counts, sums in parts, shifted, and of sums.
use Rattle.std.proofs.Common.{◌≡◌, ℕ, zero, suc, ◌+◌, ◌-◌, ◌<◌, ◌≤◌, Bool, true, false, cond, eqb, leb, ◌≢◌, ◌⊎◌, sym, refl, ◌∙◌, inl, inr, ⊎_elim, arith}
use Rattle.std.proofs.lemmas.Bool.{cases_eq, cases_lt, cases_Bool, or_cases, or_left, or_right, eq-eqb, eqb-true, le-leb, lt-leb, both_ways, cond-true, cond-false}
use Rattle.flow.specs.Network.{total}
use Rattle.flow.proofs.Sums.{total_same, total_add, total_zero, total_part}
use Rattle.timetable.specs.Plans.{some_below}

pub some_below_at : (n : ℕ) (p : ℕ → Bool) → some_below n p ≡ true → (v : ℕ) × (v < n) × (p v ≡ true)
some_below_at zero p e = absurd (both_ways false refl e)
some_below_at (suc n) p e =
    ⊎_elim (λ q. let h = some_below_at n p q in (h.0, omega (arith, h.1), h.2)) (λ q. (n, omega arith, q)) (or_cases (some_below n p) (p n) e)

pub some_below_from : (n : ℕ) (p : ℕ → Bool) (v : ℕ) → v < n → p v ≡ true → some_below n p ≡ true
some_below_from zero p v l e = absurd (omega arith)
some_below_from (suc n) p v l e =
    ⊎_elim (λ q. or_right (some_below n p) (p n) (rw q at e)) (λ ne. or_left (some_below n p) (p n) (some_below_from n p v (omega arith) e)) (cases_eq v n)

pub none_below : (n : ℕ) (p : ℕ → Bool) → some_below n p ≡ false → (v : ℕ) → v < n → p v ≡ false
none_below n p e v l = ⊎_elim (λ h. absurd (both_ways _ e (some_below_from n p v l h))) (λ h. h) (cases_Bool (p v))

-- the first number that passes, if one does
pub first : (n : ℕ) (p : ℕ → Bool) → ((v : ℕ) → v < n → p v ≡ false) ⊎ ((v : ℕ) × (v < n) × (p v ≡ true) × ((w : ℕ) → w < v → p w ≡ false))
first zero p = inl (λ v l. absurd (omega arith))
first (suc n) p =
    ⊎_elim
    (λ none. ⊎_elim (λ e. inr (n, omega arith, e, none)) (λ e. inl (λ v l. ⊎_elim (λ q. rw q e) (λ ne. none v (omega arith)) (cases_eq v n))) (cases_Bool (p n)))
    (λ h. inr (h.0, omega (arith, h.1), h.2, h.3))
    (first n p)

pub total_some : (n : ℕ) (g : ℕ → ℕ) → 0 < total n g → (v : ℕ) × (v < n) × (0 < g v)
total_some zero g l = absurd (omega arith)
total_some (suc n) g l =
    ⊎_elim (λ here. (n, omega arith, here)) (λ none. let h = total_some n g (omega arith) in (h.0, omega (arith, h.1), h.2)) (cases_lt 0 (g n))

-- the same where a part counts only under a test
cond_some : (b : Bool) (x : ℕ) → 0 < cond b x 0 → (b ≡ true) × (0 < x)
cond_some true x l = (refl, l)
cond_some false x l = absurd (omega arith)

pub counted_some : (n : ℕ) (b : ℕ → Bool) (g : ℕ → ℕ) → 0 < total n (λ v. cond (b v) (g v) 0) → (v : ℕ) × (v < n) × (b v ≡ true) × (0 < g v)
counted_some n b g l = let (v, m, h) = total_some n _ l in let (e, x) = cond_some (b v) (g v) h in (v, m, e, x)

pub counted_from : (n : ℕ) (b : ℕ → Bool) (g : ℕ → ℕ) (v : ℕ) → v < n → b v ≡ true → 0 < g v → 0 < total n (λ v. cond (b v) (g v) 0)
counted_from n b g v l e x = omega (arith, total_part n (λ v. cond (b v) (g v) 0) v l, cond-true (b v) (g v) 0 e)

pub total_both : (n : ℕ) (f g h : ℕ → ℕ) → ((v : ℕ) → v < n → f v ≡ g v + h v) → total n f ≡ total n g + total n h
total_both n f g h e = total_same n f _ e ∙ total_add n g h

pub total_cond : (b : Bool) (n : ℕ) (g : ℕ → ℕ) → cond b (total n g) 0 ≡ total n (λ v. cond b (g v) 0)
total_cond true n g = refl
total_cond false n g = sym (total_zero n (λ v. 0) (λ v l. refl))

-- only j counts
pub total_only : (n j : ℕ) (g : ℕ → ℕ) → j < n → ((v : ℕ) → v < n → v ≢ j → g v ≡ 0) → total n g ≡ g j
total_only zero j g l z = absurd (omega arith)
total_only (suc n) j g l z =
    ⊎_elim (λ q. rw q (omega (arith, total_zero n g (λ v m. z v (omega arith) (omega arith)))))
    (λ ne. omega (arith, z n (omega arith) (λ q. ne (sym q)), total_only n j g (omega arith) (λ v m. z v (omega arith))))
    (cases_eq j n)

-- those that pass a test which one number passes
pub total_one : (n j : ℕ) (p : ℕ → Bool) (g : ℕ → ℕ) → j < n → p j ≡ true → ((v : ℕ) → v < n → p v ≡ true → v ≡ j) → total n (λ v. cond (p v) (g v) 0) ≡ g j
total_one n j p g l e one = total_only n j _ l (λ v m ne. none v (p v) (λ t. ne (one v m t))) ∙ rw e
  where
    none : (v : ℕ) (b : Bool) → (b ≡ true → ⊥) → cond b (g v) 0 ≡ 0
    none v true h = absurd (h refl)
    none v false h = refl

-- of all numbers below n one is h
pub total_at : (n h : ℕ) (g : ℕ → ℕ) → h < n → total n (λ v. cond (eqb h v) (g v) 0) ≡ g h
total_at n h g l = total_one n h (eqb h) g l (eq-eqb h h refl) (λ v m e. sym (eqb-true h v e))

-- what counts under a test need be the same only there
pub cond_same : (b : Bool) (x y : ℕ) → (b ≡ true → x ≡ y) → cond b x 0 ≡ cond b y 0
cond_same true x y e = e refl
cond_same false x y e = refl

-- only the first m count
pub total_front : (n m : ℕ) (b : ℕ → Bool) (g : ℕ → ℕ) → m ≤ n → ((v : ℕ) → v < m → b v ≡ true) → ((v : ℕ) → m ≤ v → b v ≡ false) → total n (λ v. cond (b v) (g v) 0) ≡ total m g
total_front zero m b g l has lacks = let e : m ≡ 0 = omega arith in rw e refl
total_front (suc n) m b g l has lacks =
    ⊎_elim
    (λ e. rw e (total_same (suc n) (λ v. cond (b v) (g v) 0) g (λ v k. cond-true _ _ _ (has v (omega arith)))))
    (λ ne. omega (arith, total_front n m b g (omega arith) has lacks, cond-false (b n) (g n) 0 (lacks n (omega arith))))
    (cases_eq m (suc n))

-- the numbers from s on, counted from 0
one_more : (n s a : ℕ) (g : ℕ → ℕ) → a ≡ total (n - s) g → a + cond (leb s n) (g (n - s)) 0 ≡ total (suc n - s) g
one_more n s a g h = ⊎_elim past counts (cases_lt n s)
  where
    past : n < s → a + cond (leb s n) (g (n - s)) 0 ≡ total (suc n - s) g
    past l = let e : suc n - s ≡ n - s = omega arith in rw e (omega (arith, cond-false (leb s n) (g (n - s)) 0 (lt-leb s n l)))

    counts : s ≤ n → a + cond (leb s n) (g (n - s)) 0 ≡ total (suc n - s) g
    counts l = let e : suc n - s ≡ suc (n - s) = omega arith in rw e (omega (arith, cond-true (leb s n) (g (n - s)) 0 (le-leb s n l)))

total_late : (n s : ℕ) (g : ℕ → ℕ) → total n (λ u. cond (leb s u) (g (u - s)) 0) ≡ total (n - s) g
total_late zero s g = let e : 0 - s ≡ 0 = omega arith in rw e refl
total_late (suc n) s g = one_more n s _ g (total_late n s g)

-- by the period of arrival or by that of departure
pub total_shift : (h s : ℕ) (g : ℕ → ℕ) → total (suc h) (λ u. cond (leb s u) (g (u - s)) 0) ≡ total (suc h) (λ t. cond (leb (t + s) h) (g t) 0)
total_shift h s g =
    total_late (suc h) s g
    ∙ sym (total_front (suc h) (suc h - s) (λ t. leb (t + s) h) g (omega arith) (λ t l. le-leb (t + s) h (omega arith)) (λ t l. lt-leb (t + s) h (omega arith)))

-- sums of sums
abbrev pub totals : ℕ → ℕ → (ℕ → ℕ → ℕ) → ℕ
totals n m g = total n (λ i. total m (g i))

pub totals_both : (n m : ℕ) (f g h : ℕ → ℕ → ℕ) → ((i j : ℕ) → i < n → j < m → f i j ≡ g i j + h i j) → totals n m f ≡ totals n m g + totals n m h
totals_both n m f g h e = total_both n (λ i. total m (f i)) (λ i. total m (g i)) (λ i. total m (h i)) (λ i l. total_both m (f i) (g i) (h i) (λ j k. e i j l k))

pub totals_part : (n m : ℕ) (g : ℕ → ℕ → ℕ) (i j : ℕ) → i < n → j < m → g i j ≤ totals n m g
totals_part n m g i j l k = omega (arith, total_part m (g i) j k, total_part n (λ i. total m (g i)) i l)

pub totals_swap : (n m : ℕ) (g : ℕ → ℕ → ℕ) → totals n m g ≡ totals m n (λ j i. g i j)
totals_swap zero m g = sym (total_zero m (λ j. 0) (λ j l. refl))
totals_swap (suc n) m g = omega (arith, totals_swap n m g, total_both m (λ j. total (suc n) (λ i. g i j)) (λ j. total n (λ i. g i j)) (g n) (λ j l. refl))

pub totals_zero : (n m : ℕ) (g : ℕ → ℕ → ℕ) → ((i j : ℕ) → i < n → j < m → g i j ≡ 0) → totals n m g ≡ 0
totals_zero n m g e = total_zero n (λ i. total m (g i)) (λ i l. total_zero m (g i) (λ j k. e i j l k))
