-- What is owed, written depot by depot.
use Rattle.std.proofs.Common.{◌≡◌, ℕ, suc, ◌+◌, ◌*◌, ◌<◌, ◌≤◌, Bool, true, false, List, [], ◌∷◌, length, take, map, get_or, refl, ap, ◌∙◌, arith}
use Rattle.std.proofs.Math.Path.{fun_ext}
use Rattle.std.specs.Prelude.{◌==◌, if◌then◌else◌}
use Rattle.std.specs.List.{All, list_all}
use Rattle.std.proofs.lemmas.Bool.{and_from, le-leb}
use Rattle.expanded.specs.Made.{is_within}
use Rattle.slips.specs.declared.table.Entry.{Entry}
use Rattle.slips.specs.Owed.{owed_at, count_at}
use Rattle.slips.proofs.Owing.{owed_at_most}
use Rattle.board.specs.Owing.{owed_by, owed_with}

-- a list whose first entries were filled one by one
pub filled : (f : ℕ → ℕ) (xs ys : List ℕ) → length xs ≤ length ys → ((i : ℕ) → i < length xs → get_or ys i 0 ≡ f (get_or xs i 0)) → take (length xs) ys ≡ map f xs
filled f [] ys l h = refl
filled f (x ∷ xs) [] l h = absurd (let z : ⊥ = omega (arith, l) in z)
filled f (x ∷ xs) (y ∷ ys) l h =
    let same : y ≡ f x = h 0 (omega arith) in
    let rest = filled f xs ys (omega (arith, l)) (λ i m. h (suc i) (omega (arith, m))) in
    ap (λ (z : ℕ). z ∷ take (length xs) ys) same ∙ ap (λ (zs : List ℕ). f x ∷ zs) rest

each_within : (f : ℕ → ℕ) → ((y : ℕ) → f y ≤ 5119488) → (xs : List ℕ) → list_all is_within (map f xs) ≡ true
each_within f low [] = refl
each_within f low (x ∷ xs) = and_from (is_within (f x)) (list_all is_within (map f xs)) (le-leb (f x) 5119488 (low x)) (each_within f low xs)

count_low : (b : Bool) (p : ℕ) → (if b then p else 0) ≤ p
count_low true p = omega arith
count_low false p = omega arith

pub owed_low : (hs : List Entry) (yard pallets : ℕ) → All (λ e. e.pallets ≤ 9999) hs → length hs * 9999 + pallets ≤ 5119488 → (y : ℕ) → owed_at y hs + count_at y yard pallets ≤ 5119488
owed_low hs yard pallets each fits y = omega (arith, owed_at_most y 9999 hs each, count_low (yard == y) pallets)

pub owed_within : (depots : List ℕ) (hs : List Entry) (yard pallets : ℕ) → All (λ e. e.pallets ≤ 9999) hs → length hs * 9999 + pallets ≤ 5119488 → list_all is_within (owed_with depots hs yard pallets) ≡ true
owed_within depots hs yard pallets each fits = each_within (λ y. owed_at y hs + count_at y yard pallets) (owed_low hs yard pallets each fits) depots

-- two counts that agree at each yard
pub by_depot : (f g : ℕ → ℕ) → ((y : ℕ) → f y ≡ g y) → (depots : List ℕ) → map f depots ≡ map g depots
by_depot f g same depots = ap (λ (h : ℕ → ℕ). map h depots) (fun_ext same)

-- with no pallets more, what is owed is what is owed
pub owed_with_none : (depots : List ℕ) (hs : List Entry) → owed_with depots hs 0 0 ≡ owed_by depots hs
owed_with_none depots hs = by_depot _ _ (λ y. omega (arith, count_low (0 == y) 0)) depots

-- the front of a list as long as one of two lists that are the same
pub front : (xs ys owed list : List ℕ) → xs ≡ ys → take (length ys) owed ≡ list → take (length xs) owed ≡ list
front xs ys owed list same e = ap (λ (zs : List ℕ). take (length zs) owed) same ∙ e
