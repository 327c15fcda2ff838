-- The marks of records, by their two letters.
use Rattle.std.specs.Prelude.{◌≡◌, ℕ, if◌then◌else◌, ◌&&◌, List, [], ◌∷◌, Some, None, Ok, Err, codes, Option, Result, ◌==◌, slice_index}
use Rattle.dayfile.specs.declared.mark.Mark.{Mark}
use Rattle.dayfile.specs.declared.mark.NoMark.{NoMark}
use Rattle.dayfile.specs.declared.mark.Mark.TheVariants.{Hz, Yn, Ln, Dp, Sd, Hd, Bk, Rl, Qt, Rs}

-- the letters of each mark
abbrev pub letters : Mark → List ℕ
letters Hz = codes "HZ"
letters Yn = codes "YN"
letters Ln = codes "LN"
letters Dp = codes "DP"
letters Sd = codes "SD"
letters Hd = codes "HD"
letters Bk = codes "BK"
letters Rl = codes "RL"
letters Qt = codes "QT"
letters Rs = codes "RS"

-- the first of the marks that has these letters
abbrev pub mark_in : List Mark → ℕ → ℕ → Option Mark
mark_in [] a b = None
mark_in (m ∷ ms) a b = if a == slice_index (letters m) 0 && b == slice_index (letters m) 1 then Some m else mark_in ms a b

abbrev pub mark_of : ℕ → ℕ → Option Mark
mark_of a b = mark_in (Hz ∷ Yn ∷ Ln ∷ Dp ∷ Sd ∷ Hd ∷ Bk ∷ Rl ∷ Qt ∷ Rs ∷ []) a b

-- two letters are read as their mark, or refused where no mark has them
abbrev pub ReadsMark : List ℕ → Result Mark NoMark → Type 0
ReadsMark s (Ok m) = mark_of (slice_index s 0) (slice_index s 1) ≡ Some m
ReadsMark s (Err e) = (mark_of (slice_index s 0) (slice_index s 1) ≡ None) × (e.0 ≡ s)
