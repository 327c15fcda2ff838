-- A list that another was written over, up to k.
use Rattle.std.proofs.Common.{◌≡◌, ℕ, ◌<◌, List, ◌++◌, length, drop, get_or, ap, ◌∙◌, arith}
use Rattle.std.proofs.lemmas.List.{get_or_append_left}
use Rattle.std.proofs.lemmas.Slice.{drop-append-drop}

abbrev pub Over : (k : ℕ) (old front new : List ℕ) → Type 0
Over k old front new = (length front ≡ k) × (new ≡ front ++ drop (length front) old)

module _ (k : ℕ) (old front new : List ℕ) (over : Over k old front new) where
  pub front_at : (i : ℕ) → i < k → get_or new i 0 ≡ get_or front i 0
  front_at i l = ap (λ xs. get_or xs i 0) over.1 ∙ get_or_append_left front (drop (length front) old) 0 i (omega (arith, over.0))

  pub behind : drop k new ≡ drop k old
  behind =
      ap (drop k) over.1 ∙ ap (λ n. drop k (front ++ drop n old)) over.0 ∙ drop-append-drop k old front k (omega arith) over.0
