-- Lists whose entries are read one after another.
use Rattle.std.proofs.Common.{◌≡◌, ℕ, ◌+◌, ◌*◌, List, [], ◌∷◌, ◌++◌, drop, slice_index_or, min, add-one, ap, sym, ◌∙◌, arith}
use Rattle.std.proofs.Math.Nat.{mul-suc}
use Rattle.std.proofs.lemmas.List.{drop-drop, get_or-drop}
use Rattle.std.proofs.lemmas.List.FromFn.{map-range_with_len_more}
use Rattle.search_trial.specs.Entries.{entries, short}

-- one entry more
pub entries_more : {X : Type 0} (entry : List ℕ → X) (width n : ℕ) (ns : List ℕ) → entries entry width (n + 1) ns ≡ entries entry width n ns ++ entry (drop (width * n) ns) ∷ []
entries_more entry width n ns = map-range_with_len_more (λ i. entry (drop (width * i) ns)) 0 n n (omega arith)

pub drop_more : (width n : ℕ) (ns : List ℕ) → drop width (drop (width * n) ns) ≡ drop (width * (n + 1)) ns
drop_more width n ns = drop-drop width (width * n) ns ∙ ap (λ k. drop k ns) (rw add-one (sym (mul-suc width n)))

-- a number of 16 bits, with as many numbers before it
pub short_at : (ns : List ℕ) (i : ℕ) → short (drop i ns) 0 ≡ short ns i
short_at ns i =
    let here : i + 0 ≡ i = omega arith in
    ap (λ m. min m 65535) (get_or-drop i ns 0 65535 ∙ ap (λ k. slice_index_or ns k 65535) here)
