-- The smallest of a list of numbers, and of the capacities of a lane's departures.
use Rattle.std.proofs.Common.{◌≡◌, ℕ, zero, suc, ◌+◌, ◌-◌, ◌<◌, ◌≤◌, true, false, leb, min, inl, inr, List, [], ◌∷◌, length, map, take, get_or, sym, refl, ap, ◌∙◌, ⊎_elim, arith}
use Rattle.std.specs.List.{range_with_len, filter, fold}
use Rattle.std.proofs.Math.Nat.{min-eq_left, min-eq_right}
use Rattle.std.proofs.lemmas.List.{length-take-le, get_or-take}
use Rattle.std.proofs.lemmas.Bool.{cases_lt, le-leb, lt-leb, leb-true}
use Rattle.std.proofs.lemmas.List.FromFn.{length-map-range_with_len, get_or-map-range_with_len, fill_by_all}
use Rattle.timetable.specs.Plans.{Timetable, lane, departs}
use Rattle.lane_network.specs.Lanes.{smallest_of, departing, IsSmallest, CapacitySmallest}

-- the smallest so far and of the numbers that follow
fold_low : (x : ℕ) (xs : List ℕ) → fold min x xs ≤ x
fold_low x [] = omega arith
fold_low x (y ∷ ys) = omega (arith, fold_low (min x y) ys)

fold_least : (x : ℕ) (xs : List ℕ) (i : ℕ) → i < length xs → fold min x xs ≤ get_or xs i 0
fold_least x [] i l = absurd (omega arith)
fold_least x (y ∷ ys) zero l = omega (arith, fold_low (min x y) ys)
fold_least x (y ∷ ys) (suc i) l = fold_least (min x y) ys i (omega arith)

-- each number of a list is at least the smallest, which is one of them
pub smallest_least : (xs : List ℕ) (i : ℕ) → i < length xs → smallest_of xs ≤ get_or xs i 0
smallest_least [] i l = absurd (omega arith)
smallest_least (x ∷ xs) zero l = fold_low x xs
smallest_least (x ∷ xs) (suc i) l = fold_least x xs i (omega arith)

pub record At (xs : List ℕ) (m : ℕ) : Type 0 where
  pub place : ℕ
  pub inside : place < length xs
  pub here : get_or xs place 0 ≡ m

first_two : (x y : ℕ) (ys : List ℕ) (m : ℕ) → At (min x y ∷ ys) m → At (x ∷ y ∷ ys) m
first_two x y ys m at = found at.place at.inside at.here
  where
    found : (i : ℕ) → i < length (min x y ∷ ys) → get_or (min x y ∷ ys) i 0 ≡ m → At (x ∷ y ∷ ys) m
    found zero l e = ⊎_elim
        (λ less. record { place = 0; inside = omega arith; here = omega (arith, min-eq_left {n = x} {m = y} (omega arith)) })
        (λ less. record { place = 1; inside = omega arith; here = omega (arith, min-eq_right {n = y} {m = x} less) })
        (cases_lt x y)
    found (suc i) l e = record { place = suc (suc i); inside = omega arith; here = e }

fold_taken : (x : ℕ) (xs : List ℕ) → At (x ∷ xs) (fold min x xs)
fold_taken x [] = record { place = 0; inside = omega arith; here = refl }
fold_taken x (y ∷ ys) = first_two x y ys _ (fold_taken (min x y) ys)

pub smallest_taken : (xs : List ℕ) → 0 < length xs → At xs (smallest_of xs)
smallest_taken [] l = absurd (omega arith)
smallest_taken (x ∷ xs) l = fold_taken x xs

-- a lane departs in each of the first periods, and in no other
first_periods : (horizon transit n a m : ℕ) → m ≡ min n (suc horizon - (a + transit)) → filter (λ t. leb (t + transit) horizon) (range_with_len a n) ≡ range_with_len a m
first_periods horizon transit zero a m e = let z : 0 ≡ m = omega arith in ap (λ (k : ℕ). range_with_len a k) z
first_periods horizon transit (suc n) a m e =
    ⊎_elim
    (λ late. let z : 0 ≡ m = omega arith in
    let rest : 0 ≡ min n (suc horizon - (a + 1 + transit)) = omega arith in
    rw (lt-leb (a + transit) horizon late) (first_periods horizon transit n (a + 1) 0 rest ∙ ap (λ (k : ℕ). range_with_len a k) z))
    (λ in'. let z : suc (m - 1) ≡ m = omega arith in
    let rest : m - 1 ≡ min n (suc horizon - (a + 1 + transit)) = omega arith in
    rw (le-leb (a + transit) horizon in') (ap (λ (xs : List ℕ). a ∷ xs) (first_periods horizon transit n (a + 1) (m - 1) rest) ∙ ap (λ (k : ℕ). range_with_len a k) z))
    (cases_lt horizon (a + transit))

pub departing_is : (horizon transit : ℕ) → departing horizon transit ≡ range_with_len 0 (suc horizon - transit)
unfolding departing
departing_is horizon transit = first_periods horizon transit (suc horizon) 0 (suc horizon - transit) (omega arith)

-- the smallest of what f gives for the first n periods
module _ (f : ℕ → ℕ) (n : ℕ) where
  abbrev firsts : List ℕ
  firsts = map f (range_with_len 0 n)

  firsts_at : (t : ℕ) → t < n → get_or firsts t 0 ≡ f t
  firsts_at t l = get_or-map-range_with_len f 0 n t t 0 l (omega arith)

  first_least : (t : ℕ) → t < n → smallest_of firsts ≤ f t
  first_least t l = omega (arith, smallest_least firsts t (omega (arith, length-map-range_with_len f 0 n)), firsts_at t l)

  first_taken : 0 < n → (t : ℕ) × (t < n) × (f t ≡ smallest_of firsts)
  first_taken l =
      let at = smallest_taken firsts (omega (arith, length-map-range_with_len f 0 n)) in
      let in' : at.place < n = omega (arith, at.inside, length-map-range_with_len f 0 n) in
      (at.place, in', sym (firsts_at at.place in') ∙ at.here)

-- the capacity of a lane, at the number of its departures
lane_smallest : (S : Timetable) (l n : ℕ) → n ≡ suc S.horizon - (lane S l).transit → IsSmallest S l (smallest_of (map (S.capacity l) (range_with_len 0 n)))
lane_smallest S l n e = record {
  least = λ t d. first_least (S.capacity l) n t (omega (arith, leb-true _ _ d));
  taken = ⊎_elim (λ some. inl (takes some)) (λ none. inr (never none, let z : n ≡ 0 = omega arith in rw z refl)) (cases_lt 0 n);
}
  where
    takes : 0 < n → (t : ℕ) × (departs S l t ≡ true) × (S.capacity l t ≡ smallest_of (map (S.capacity l) (range_with_len 0 n)))
    takes some = let (t, in', at) = first_taken (S.capacity l) n some in (t, le-leb _ _ (omega arith), at)

    never : n ≤ 0 → (t : ℕ) → departs S l t ≡ false
    never none t = lt-leb _ _ (omega arith)

pub capacity_smallest : CapacitySmallest
capacity_smallest S l = rw (departing_is S.horizon (lane S l).transit) (lane_smallest S l _ refl)

-- the capacities of the departures stand first in a row
pub departing_row : (horizon transit : ℕ) (row : List ℕ) → horizon < length row → map (λ t. get_or row t 0) (departing horizon transit) ≡ take (suc horizon - transit) row
departing_row horizon transit row l =
    let n = suc horizon - transit in
    rw (departing_is horizon transit) (sym (fill_by_all (λ t. get_or row t 0) (take n row) n 0 (length-take-le n row (omega arith)) (λ k m. get_or-take n row k 0 m)))
