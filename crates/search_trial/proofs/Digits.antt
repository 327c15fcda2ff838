-- The next number of a text: what is no digit is passed, and the digits up to the next byte that is none are read.
use Rattle.std.proofs.Common.{◌≡◌, ℕ, suc, ◌+◌, ◌*◌, ◌-◌, ◌%◌, ◌^◌, ◌<◌, ◌≤◌, Bool, true, false, cond, not, ◌&&◌, List, [], ◌∷◌, length, take, drop, map, nat_le, nat_lt, refl, sym, ◌∙◌, ap, subst, ⊎_elim, arith}
use Rattle.std.specs.List.{filter, fold, list_all, onto_first, prefix_len, slice_split}
use Rattle.std.specs.Str.Parse.{digits_value, digits_value_after}
use Rattle.std.specs.Char.{digit_value, is_ascii_digit}
use Rattle.std.proofs.Math.Nat.{add-mod, mod-mod}
use Rattle.std.proofs.lemmas.Nat.{mul-mod}
use Rattle.std.proofs.lemmas.Bool.{and_parts, cases_Bool, leb-true, lt-ltb}
use Rattle.std.proofs.lemmas.List.Folds.{length-prefix_len}
use Rattle.std.proofs.lemmas.List.Splits.{slice_split-cons_no, slice_split-cons_yes}
use Rattle.std.proofs.lemmas.Grind.{common_steps}
use Rattle.search_trial.specs.Numbers.{numbers}

one-add : (n : ℕ) → 1 + n ≡ suc n
one-add n = omega arith

-- the elements before the first that fails a test, and those from it on
module _ (q : ℕ → Bool) (x : ℕ) (xs : List ℕ) where
  abbrev count : ℕ
  count = prefix_len q (x ∷ xs)

  take_yes : q x ≡ true → take count (x ∷ xs) ≡ x ∷ take (prefix_len q xs) xs
  take_yes e = ap (λ b. take (cond b (1 + prefix_len q xs) 0) (x ∷ xs)) e ∙ ap (λ n. take n (x ∷ xs)) (one-add (prefix_len q xs))

  take_no : q x ≡ false → take count (x ∷ xs) ≡ []
  take_no e = ap (λ b. take (cond b (1 + prefix_len q xs) 0) (x ∷ xs)) e

  drop_yes : q x ≡ true → drop count (x ∷ xs) ≡ drop (prefix_len q xs) xs
  drop_yes e = ap (λ b. drop (cond b (1 + prefix_len q xs) 0) (x ∷ xs)) e ∙ ap (λ n. drop n (x ∷ xs)) (one-add (prefix_len q xs))

  drop_no : q x ≡ false → drop count (x ∷ xs) ≡ x ∷ xs
  drop_no e = ap (λ b. drop (cond b (1 + prefix_len q xs) 0) (x ∷ xs)) e

-- For any test of bytes, and any value of those between two cuts.
module _ (p : ℕ → Bool) (v : List ℕ → ℕ) where
  abbrev cuts : ℕ → Bool
  cuts b = not (p b)

  abbrev values : List (List ℕ) → List ℕ
  values ps = map v (filter (λ ds. nat_lt 0 (length ds)) ps)

  -- the values of a text, and those behind the first part, where that is taken away
  abbrev all : List ℕ → List ℕ
  all xs = values (slice_split cuts xs)

  abbrev others : List ℕ → List (List ℕ)
  others [] = []
  others (y ∷ ys) = slice_split cuts ys

  first : (xs : List ℕ) → slice_split cuts xs ≡ take (prefix_len p xs) xs ∷ others (drop (prefix_len p xs) xs)
  first [] = refl
  first (x ∷ xs) = ⊎_elim
      (λ e. slice_split-cons_no cuts x xs (ap not e) ∙ ap (onto_first x) (first xs) ∙ sym (ap (λ ys. ys ∷ others (drop (prefix_len p (x ∷ xs)) (x ∷ xs))) (take_yes p x xs e) ∙ ap (λ ys. (x ∷ take (prefix_len p xs) xs) ∷ others ys) (drop_yes p x xs e)))
      (λ e. slice_split-cons_yes cuts x xs (ap not e) ∙ sym (ap (λ ys. ys ∷ others (drop (prefix_len p (x ∷ xs)) (x ∷ xs))) (take_no p x xs e) ∙ ap (λ ys. [] ∷ others ys) (drop_no p x xs e)))
      (cases_Bool (p x))

  behind : (xs : List ℕ) → all (drop (prefix_len p xs) xs) ≡ values (others (drop (prefix_len p xs) xs))
  behind [] = refl
  behind (x ∷ xs) = ⊎_elim
      (λ e. ap all (drop_yes p x xs e) ∙ behind xs ∙ sym (ap (λ ys. values (others ys)) (drop_yes p x xs e)))
      (λ e. ap all (drop_no p x xs e) ∙ ap values (slice_split-cons_yes cuts x xs (ap not e)) ∙ sym (ap (λ ys. values (others ys)) (drop_no p x xs e)))
      (cases_Bool (p x))

  some : (xs : List ℕ) → 0 < length (take (prefix_len p xs) xs) → all xs ≡ v (take (prefix_len p xs) xs) ∷ all (drop (prefix_len p xs) xs)
  some xs l =
      let ps = filter (λ ds. nat_lt 0 (length ds)) (others (drop (prefix_len p xs) xs)) in
      ap values (first xs)
      ∙ ap (λ b. map v (cond b (take (prefix_len p xs) xs ∷ ps) ps)) (lt-ltb 0 (length (take (prefix_len p xs) xs)) l)
      ∙ ap (λ ns. v (take (prefix_len p xs) xs) ∷ ns) (sym (behind xs))

  passed : (xs : List ℕ) → all xs ≡ all (drop (prefix_len cuts xs) xs)
  passed [] = refl
  passed (x ∷ xs) = ⊎_elim
      (λ e. sym (ap all (drop_no cuts x xs (ap not e))))
      (λ e. ap values (slice_split-cons_yes cuts x xs (ap not e)) ∙ passed xs ∙ sym (ap all (drop_yes cuts x xs (ap not e))))
      (cases_Bool (p x))

  none : (xs : List ℕ) → prefix_len p (drop (prefix_len cuts xs) xs) ≡ 0 → drop (prefix_len cuts xs) xs ≡ []
  none [] l = refl
  none (x ∷ xs) l = ⊎_elim
      (λ e. let z : 1 + prefix_len p xs ≡ 0 = subst (λ b. cond b (1 + prefix_len p xs) 0 ≡ 0) e (subst (λ ys. prefix_len p ys ≡ 0) (drop_no cuts x xs (ap not e)) l) in absurd (omega arith))
      (λ e. drop_yes cuts x xs (ap not e) ∙ none xs (subst (λ ys. prefix_len p ys ≡ 0) (drop_yes cuts x xs (ap not e)) l))
      (cases_Bool (p x))

passing : (p : ℕ → Bool) (xs : List ℕ) → list_all p (take (prefix_len p xs) xs) ≡ true
passing p [] = refl
passing p (x ∷ xs) = ⊎_elim
    (λ e. ap (list_all p) (take_yes p x xs e) ∙ ap (λ b. b && list_all p (take (prefix_len p xs) xs)) e ∙ passing p xs)
    (λ e. ap (list_all p) (take_no p x xs e))
    (cases_Bool (p x))

value_digit : (b : ℕ) → is_ascii_digit b ≡ true → digit_value b ≡ b - 48
value_digit b h =
    let (low, high) = and_parts (nat_le 48 b) (nat_le b 57) h in
    let at : 48 ≤ b = leb-true 48 b low in
    let to : b ≤ 57 = leb-true b 57 high in
    grind (arith, common_steps)

-- a number with one digit more, modulo 2 ^ 32
step_mod : (a b d : ℕ) → a % 2 ^ 32 ≡ b % 2 ^ 32 → (a * 10 + d) % 2 ^ 32 ≡ (b * 10 + d) % 2 ^ 32
step_mod a b d e =
    add-mod (a * 10) d (2 ^ 32)
    ∙ ap (λ k. (k + d % 2 ^ 32) % 2 ^ 32) (mul-mod a 10 (2 ^ 32) ∙ ap (λ k. (k * (10 % 2 ^ 32)) % 2 ^ 32) e ∙ sym (mul-mod b 10 (2 ^ 32)))
    ∙ sym (add-mod (b * 10) d (2 ^ 32))

-- the digits' number, one digit after another, modulo 2 ^ 32
abbrev pub with_digit : ℕ → ℕ → ℕ
with_digit n d = (n * 10 + (d - 48)) % 2 ^ 32

read_on : (ds : List ℕ) (n : ℕ) → list_all is_ascii_digit ds ≡ true → fold with_digit (n % 2 ^ 32) ds ≡ digits_value_after 10 n ds % 2 ^ 32
read_on [] n h = refl
read_on (d ∷ ds) n h =
    let (here, later) = and_parts (is_ascii_digit d) (list_all is_ascii_digit ds) h in
    let one : with_digit (n % 2 ^ 32) d ≡ (n * 10 + digit_value d) % 2 ^ 32 = rw (value_digit d here) (step_mod (n % 2 ^ 32) n (d - 48) (mod-mod n (2 ^ 32))) in
    ap (λ k. fold with_digit k ds) one ∙ read_on ds (n * 10 + digit_value d) later

abbrev number : List ℕ → ℕ
number ds = digits_value 10 ds % 2 ^ 32

-- what is left of a text behind the gap, and the digits that follow it
module _ (text after digits : List ℕ) (gap : after ≡ drop (prefix_len (λ b. not (is_ascii_digit b)) text) text) (front : digits ≡ take (prefix_len is_ascii_digit after) after) where
  no_digit : length digits ≡ 0 → prefix_len is_ascii_digit after ≡ 0
  no_digit l = sym (length-prefix_len is_ascii_digit after) ∙ ap length (sym front) ∙ l

  all_gap : length digits ≡ 0 → after ≡ []
  all_gap l = gap ∙ none is_ascii_digit number text (ap (prefix_len is_ascii_digit) (sym gap) ∙ no_digit l)

  pub no_more : length digits ≡ 0 → numbers text ≡ []
  no_more l = passed is_ascii_digit number text ∙ ap numbers (sym gap ∙ all_gap l)

  pub none_behind : (rest : List ℕ) → rest ≡ drop (prefix_len is_ascii_digit after) after → length digits ≡ 0 → numbers rest ≡ []
  none_behind rest back l = ap numbers (back ∙ ap (λ n. drop n after) (no_digit l) ∙ all_gap l)

  pub one_more : (rest : List ℕ) → rest ≡ drop (prefix_len is_ascii_digit after) after → 0 < length digits → numbers text ≡ fold with_digit 0 digits ∷ numbers rest
  one_more rest back l =
      let value : fold with_digit 0 digits ≡ number digits = read_on digits 0 (ap (list_all is_ascii_digit) front ∙ passing is_ascii_digit after) in
      let there : 0 < length (take (prefix_len is_ascii_digit after) after) = subst (λ ds. 0 < length ds) front l in
      passed is_ascii_digit number text ∙ ap numbers (sym gap) ∙ some is_ascii_digit number after there
      ∙ ap (λ ds. number ds ∷ numbers (drop (prefix_len is_ascii_digit after) after)) (sym front)
      ∙ ap (λ n. n ∷ numbers (drop (prefix_len is_ascii_digit after) after)) (sym value)
      ∙ ap (λ ds. fold with_digit 0 digits ∷ numbers ds) (sym back)
