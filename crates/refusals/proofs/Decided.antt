-- What lists of rules decide.
use Rattle.std.proofs.Common.{◌≡◌, List, [], ◌∷◌, ◌++◌, Some, None, Option, sym, ◌∙◌, inl, inr}
use Rattle.refusals.specs.declared.Refusal.{Refusal}
use Rattle.refusals.specs.Refusals.{Rule, Decides}

-- no condition holds
abbrev pub Clear : List Rule → Type 0
Clear [] = Unit {0}
Clear (x ∷ xs) = (x.due → ⊥) × Clear xs

pub clear : (xs : List Rule) → Decides xs None → Clear xs
clear [] d = tt
clear (x ∷ xs) (inl w) = cc
clear (x ∷ xs) (inr w) = (w.0, clear xs w.1)

-- rules after others: they decide where those do not
pub decides_next : (xs ys : List Rule) (r : Option Refusal) → Decides xs None → Decides ys r → Decides (xs ++ ys) r
decides_next [] ys r d e = e
decides_next (x ∷ xs) ys r (inl w) e = cc
decides_next (x ∷ xs) ys r (inr w) e = inr (w.0, decides_next xs ys r w.1 e)

pub decides_first : (xs ys : List Rule) (why : Refusal) → Decides xs (Some why) → Decides (xs ++ ys) (Some why)
decides_first [] ys why d = cc
decides_first (x ∷ xs) ys why (inl w) = inl w
decides_first (x ∷ xs) ys why (inr w) = inr (w.0, decides_first xs ys why w.1)

-- rules leave no choice
pub decides_one : (xs : List Rule) (a b : Option Refusal) → Decides xs a → Decides xs b → a ≡ b
decides_one [] a b d e = d ∙ sym e
decides_one (x ∷ xs) a b (inl d) (inl e) = d.1 ∙ sym e.1
decides_one (x ∷ xs) a b (inl d) (inr e) = absurd (e.0 d.0)
decides_one (x ∷ xs) a b (inr d) (inl e) = absurd (d.0 e.0)
decides_one (x ∷ xs) a b (inr d) (inr e) = decides_one xs a b d.1 e.1
