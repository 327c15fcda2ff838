-- The slips of a hand.
use Rattle.std.proofs.Common.{◌≡◌, ℕ, zero, suc, List, [], ◌∷◌, Some, ap}
use Rattle.std.specs.List.{slice_get, insert, remove}

-- a slip that was taken from its place and put back there
pub put_again : {A : Type 0} (h : List A) (i : ℕ) (x : A) → slice_get h i ≡ Some x → insert (remove h i) i x ≡ h
put_again [] i x e = cc
put_again {A} (y ∷ ys) zero x e = let f : x ≡ y = cc in ap (λ (z : A). z ∷ ys) f
put_again {A} (y ∷ ys) (suc i) x e = ap (λ (r : List A). y ∷ r) (put_again ys i x e)
