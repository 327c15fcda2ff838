-- What bytes begin with, from what their fields give.
use Rattle.std.proofs.Common.{◌≡◌, ℕ, ◌+◌, ◌-◌, ◌<◌, ◌≤◌, List, length, take, drop, Option, Some, None, sym, ap, ◌∙◌, arith}
use Rattle.std.proofs.lemmas.Slice.{between_to_end}
use Rattle.std.proofs.lemmas.Bool.Decides.{nat_tests}
use Rattle.dayfile.specs.declared.mark.Mark.{Mark}
use Rattle.dayfile.specs.declared.record.Record.{Record}
use Rattle.dayfile.specs.declared.fault.Position.{Position}
use Rattle.dayfile.specs.declared.fault.FileFault.TheVariants.{CutShort}
use Rattle.dayfile.specs.Marks.{mark_of}
use Rattle.dayfile.specs.Records.{view, byte, size, record_of, Fielded}
use Rattle.dayfile.specs.Reading.{got, bad, marked, beginning}

-- `&s[p..]` and `rest @ ..` are parts that go up to the length
pub to_end : (bs : List ℕ) (p : ℕ) → take (length bs - p) (drop p bs) ≡ drop p bs
to_end bs p = let all : length bs ≤ length bs = omega arith in between_to_end bs p (length bs) all

module _ (at : Position) (bs : List ℕ) (m : Mark) (two : 2 ≤ length bs) (is : Some m ≡ mark_of (byte bs 0) (byte bs 1)) where
  known : beginning at bs ≡ marked (Some m) at (drop 2 bs)
  known =
      let past : beginning at bs ≡ marked (mark_of (byte bs 0) (byte bs 1)) at (drop 2 bs) = grind (arith, nat_tests) in
      past ∙ ap (λ o. marked o at (drop 2 bs)) (sym is)

  pub whole : (r : Option (Record × ℕ)) (x : Record) (n : ℕ) → Fielded m (at.offset + 2) (take (length bs - 2) (drop 2 bs)) r → r ≡ Some (x, n) → got (view x) (at.offset + 2 + n) ≡ beginning at bs
  whole r x n told is_some =
      let h : Fielded m (at.offset + 2) (drop 2 bs) (Some (x, n)) = rw (is_some, to_end bs 2) at told in
      let found : marked (Some m) at (drop 2 bs) ≡ got (record_of m (at.offset + 2) (drop 2 bs)) (at.offset + 2 + size m (drop 2 bs)) = grind (arith, nat_tests) in
      (λ i. got (h.1 i) (at.offset + 2 + h.2 i)) ∙ sym (known ∙ found)

  pub short : (r : Option (Record × ℕ)) → Fielded m (at.offset + 2) (take (length bs - 2) (drop 2 bs)) r → r ≡ None → bad (CutShort at) ≡ beginning at bs
  short r told is_none =
      let h : length (drop 2 bs) < size m (drop 2 bs) = rw (is_none, to_end bs 2) at told in
      let found : marked (Some m) at (drop 2 bs) ≡ bad (CutShort at) = grind (arith, nat_tests) in
      sym (known ∙ found)
