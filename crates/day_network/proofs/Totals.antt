-- Sums over numbers: cut in two, in rows, where none counts; and the sums over arcs as such sums.
use Rattle.std.proofs.Common.{◌≡◌, ℕ, zero, suc, ◌+◌, ◌-◌, ◌*◌, ◌<◌, ◌≤◌, Bool, false, cond, List, [], ◌∷◌, length, get_or, take, sym, refl, ◌∙◌, ⊎_elim, add-one, arith}
use Rattle.std.proofs.lemmas.Bool.{cases_eq}
use Rattle.flow.specs.declared.Arc.{Arc}
use Rattle.flow.specs.Network.{total, spread, crosses, wide}
use Rattle.flow.specs.Pushing.{no_arc}
use Rattle.flow.proofs.Sums.{total_zero}
use Rattle.flow.proofs.Loops.{spread_more, spread_all}

pub total_split : (n a b : ℕ) → n ≡ a + b → (g : ℕ → ℕ) → total n g ≡ total a g + total b (λ i. g (a + i))
total_split n a b e g = rw e (go b)
  where
    go : (b : ℕ) → total (a + b) g ≡ total a g + total b (λ i. g (a + i))
    go zero = let e : a + 0 ≡ a = omega arith in rw e (omega arith)
    go (suc b) = let e : a + suc b ≡ suc (a + b) = omega arith in rw e (omega (arith, go b))

-- in rows of 48
pub total_rows : (cols : ℕ) → cols ≡ 48 → (n : ℕ) (g : ℕ → ℕ) → total (n * 48) g ≡ total n (λ y. total cols (λ u. g (y * 48 + u)))
total_rows cols e zero g = refl
total_rows cols e (suc n) g = total_split (suc n * 48) (n * 48) cols (omega arith) g ∙ omega (arith, total_rows cols e n g)

pub total_le : (n : ℕ) (g h : ℕ → ℕ) → ((v : ℕ) → v < n → g v ≤ h v) → total n g ≤ total n h
total_le zero g h e = omega arith
total_le (suc n) g h e = omega (arith, total_le n g h (λ v l. e v (omega arith)), e n (omega arith))

-- parts none larger than others, and in all the same: each is the same
pub total_even : (n : ℕ) (g h : ℕ → ℕ) → ((v : ℕ) → v < n → g v ≤ h v) → total n g ≡ total n h → (v : ℕ) → v < n → g v ≡ h v
total_even zero g h le e v l = absurd (omega arith)
total_even (suc n) g h le e v l =
    let here = le n (omega arith) in
    let less = total_le n g h (λ v l. le v (omega arith)) in
    ⊎_elim (λ q. rw q (omega arith)) (λ ne. total_even n g h (λ v l. le v (omega arith)) (omega arith) v (omega arith)) (cases_eq v n)

pub total_none : (n : ℕ) (p : ℕ → Bool) (g : ℕ → ℕ) → ((v : ℕ) → v < n → p v ≡ false) → total n (λ v. cond (p v) (g v) 0) ≡ 0
total_none n p g e = total_zero n _ (λ v l. rw (e v l))

-- what counts only up to h
pub total_upto : (n h : ℕ) (g : ℕ → ℕ) → h < n → ((v : ℕ) → h < v → v < n → g v ≡ 0) → total n g ≡ total (suc h) g
total_upto n h g l z =
    let b = n - suc h in
    let rest = total_zero b (λ i. g (suc h + i)) (λ i m. z (suc h + i) (omega arith) (omega arith)) in
    total_split n (suc h) b (omega arith) g ∙ omega (arith, rest)

-- over arcs and loads
spread_upto : (g : Arc → ℕ → ℕ) (es : List Arc) (xs : List ℕ) → length xs ≡ length es → (n : ℕ) → n ≤ length es → spread g (take n es) (take n xs) ≡ total n (λ i. g (get_or es i no_arc) (get_or xs i 0))
spread_upto g es xs e zero l = refl
spread_upto g es xs e (suc n) l =
    let more = spread_more g es xs n (omega arith) e in omega (arith, rw add-one at more, spread_upto g es xs e n (omega arith))

pub spread_total : (g : Arc → ℕ → ℕ) (es : List Arc) (xs : List ℕ) (n : ℕ) → length es ≡ n → length xs ≡ n → spread g es xs ≡ total n (λ i. g (get_or es i no_arc) (get_or xs i 0))
spread_total g es xs n e q = sym (spread_all g es xs n e (omega arith)) ∙ spread_upto g es xs (omega arith) n (omega arith)

pub wide_spread : (X : ℕ → Bool) (es : List Arc) (xs : List ℕ) → length xs ≡ length es → wide X es ≡ spread (λ a x. cond (crosses X a) a.capacity 0) es xs
wide_spread X [] xs e = refl
wide_spread X (a ∷ es) [] e = absurd (omega arith)
wide_spread X (a ∷ es) (x ∷ xs) e = omega (arith, wide_spread X es xs (omega arith))
