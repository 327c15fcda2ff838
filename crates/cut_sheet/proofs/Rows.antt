-- The bits of a yard's row of marks tell which of its periods lie inside a cut.
use Rattle.std.proofs.Common.{◌≡◌, ℕ, suc, ◌+◌, ◌-◌, ◌*◌, ◌<◌, ◌≤◌, nat_lt, List, length, slice_index, take, drop, min, w64, ap, subst, ◌∙◌, arith}
use Rattle.std.specs.Prelude.{count_ones}
use Rattle.std.specs.Int.{trailing_zeros}
use Rattle.std.proofs.Math.Nat.{mul-le-mul_right}
use Rattle.std.proofs.lemmas.List.{get_or-take, get_or-drop, length-take-le, length-drop}
use Rattle.cut_sheet.specs.Bits.{bits_of}
use Rattle.cut_sheet.specs.Sheets.{lies_inside, Tells}
use Rattle.cut_sheet.proofs.Masks.{bits_same, ones_counted, first_found}

-- the marks of a yard, where each yard has w
abbrev pub row : List ℕ → ℕ → ℕ → List ℕ
row marks yard w = take (yard * w + w - yard * w) (drop (yard * w) marks)

module _ (horizon yard k : ℕ) (marks : List ℕ) (few : horizon ≤ 47) (in' : yard ≤ 31) (room : 32 * suc horizon ≤ length marks) where
  wide : yard * suc horizon + suc horizon - yard * suc horizon ≡ suc horizon
  wide = omega arith

  long : length (row marks yard (suc horizon)) ≡ suc horizon
  long =
      let below : suc yard * suc horizon ≤ 32 * suc horizon = mul-le-mul_right (suc horizon) (omega arith) in
      rw wide (length-take-le (suc horizon) (drop (yard * suc horizon) marks) (omega (arith, length-drop (yard * suc horizon) marks, below)))

  mark_at : (t : ℕ) → t < suc horizon → slice_index (row marks yard (suc horizon)) t ≡ slice_index marks (yard * suc horizon + t)
  mark_at t l = rw wide (get_or-take (suc horizon) (drop (yard * suc horizon) marks) t 0 l ∙ get_or-drop (yard * suc horizon) marks t 0)

  same : bits_of (λ t. nat_lt k (slice_index (row marks yard (suc horizon)) t)) (length (row marks yard (suc horizon))) ≡ bits_of (lies_inside horizon marks yard k) (suc horizon)
  same =
      ap (λ (n : ℕ). bits_of (λ t. nat_lt k (slice_index (row marks yard (suc horizon)) t)) n) long
      ∙ bits_same (lies_inside horizon marks yard k) (λ t. nat_lt k (slice_index (row marks yard (suc horizon)) t)) (suc horizon) (λ t l. ap (nat_lt k) (mark_at t l))

  tells : (bits first : ℕ) → bits ≡ bits_of (lies_inside horizon marks yard k) (suc horizon) → first ≡ min (trailing_zeros w64 bits) (suc horizon) → Tells horizon (lies_inside horizon marks yard k) (record { count = count_ones bits; first = first })
  tells bits first e f =
      let (before, at_first, last) = first_found (lies_inside horizon marks yard k) (suc horizon) (omega arith) in
      rw (f, e) (record { count = ones_counted (lies_inside horizon marks yard k) (suc horizon); before = before; at_first = λ l. at_first (omega arith); last = last })

  pub told : (bits first w last : ℕ) → w ≡ suc horizon → bits ≡ bits_of (λ t. nat_lt k (slice_index (row marks yard w) t)) (length (row marks yard w)) → last ≡ suc horizon → first ≡ min (trailing_zeros w64 bits) last
      → Tells horizon (lies_inside horizon marks yard k) (record { count = count_ones bits; first = first })
  told bits first w last e b h f =
      tells bits first
      (subst (λ (n : ℕ). bits ≡ bits_of (λ t. nat_lt k (slice_index (row marks yard n) t)) (length (row marks yard n))) e b ∙ same)
      (f ∙ ap (min (trailing_zeros w64 bits)) h)
