-- What stands at an offset of a file, what a reader does there, and the reading of a whole file.
use Rattle.std.specs.Prelude.{◌≡◌, ℕ, ◌+◌, ◌≤◌, if◌then◌else◌, Bool, true, false, List, [], ◌∷◌, length, drop, Some, None, Ok, Err, Option, Result, IfOk, IfSome, ◌==◌, nat_le, nat_lt}
use Rattle.dayfile.specs.declared.mark.Mark.{Mark}
use Rattle.dayfile.specs.declared.record.Record.{Record}
use Rattle.dayfile.specs.declared.fault.Position.{Position}
use Rattle.dayfile.specs.declared.fault.FileFault.{FileFault}
use Rattle.dayfile.specs.declared.fault.FileFault.TheVariants.{UnknownMark, CutShort, TooLong}
use Rattle.dayfile.specs.declared.fault.RecordFault.{RecordFault}
use Rattle.dayfile.specs.declared.fault.RecordFault.TheVariants.{File, BadName}
use Rattle.dayfile.specs.declared.reader.Reader.{Reader}
use Rattle.dayfile.specs.Faults.{place}
use Rattle.dayfile.specs.Marks.{mark_of}
use Rattle.dayfile.specs.Records.{Rec, view, byte, size, record_of, well_named}

-- what stands at an offset: the end of the file, a record and the offset after it, or a fault
pub data Step : Type 0 where
  end : Step
  got : Rec → ℕ → Step
  bad : FileFault → Step

-- a mark, if it is one, that begins at a place, and the bytes bs that follow it
abbrev pub marked : Option Mark → Position → List ℕ → Step
marked None at bs = bad (UnknownMark at)
marked (Some m) at bs =
    if nat_le (size m bs) (length bs) then got (record_of m (at.offset + 2) bs) (at.offset + 2 + size m bs) else bad (CutShort at)

-- the bytes bs from a place on; one byte alone is a record cut short
abbrev pub beginning : Position → List ℕ → Step
beginning at bs =
    if length bs == 0 then end
    else if length bs == 1 then bad (CutShort at)
    else marked (mark_of (byte bs 0) (byte bs 1)) at (drop 2 bs)

-- a day file has at most 32,768 bytes
abbrev pub is_too_long : List ℕ → Bool
is_too_long file = nat_lt 32768 (length file)

-- what stands at a place of a file; a file that is too long is a fault as a whole
abbrev pub stands : List ℕ → Position → Step
stands file at = if is_too_long file then bad TooLong else beginning at (drop at.offset file)

-- The reading of a file from offset p on, where the n-th record would begin: the records there, each with its position, and the
-- fault that ends them, if one does.
pub data Reads (file : List ℕ) : ℕ → ℕ → List (Position × Rec) → Option RecordFault → Type 0 where
  ends : {n p : ℕ} → stands file (place n p) ≡ end → Reads file n p [] None
  faulty : {n p : ℕ} (f : FileFault) → stands file (place n p) ≡ bad f → Reads file n p [] (Some (File f))
  misnamed : {n p : ℕ} (x : Rec) (q : ℕ) → stands file (place n p) ≡ got x q → well_named x ≡ false → Reads file n p [] (Some (BadName (place n p)))
  goes : {n p : ℕ} {xs : List (Position × Rec)} {f : Option RecordFault} (x : Rec) (q : ℕ) → stands file (place n p) ≡ got x q → well_named x ≡ true → Reads file (n + 1) q xs f → Reads file n p ((place n p, x) ∷ xs) f

-- a file has one reading
abbrev pub OneReading : Type 0
OneReading = (file : List ℕ) (n p : ℕ) (xs ys : List (Position × Rec)) (f g : Option RecordFault) → Reads file n p xs f → Reads file n p ys g → (xs ≡ ys) × (f ≡ g)

-- Readers: at the start of a file, and where the next record would be.
pub record Fresh (bytes : List ℕ) (s : Reader) : Type 0 where
  pub file : s.file.now ≡ bytes
  pub offset : s.offset ≡ 0
  pub count : s.count ≡ 0

abbrev pub place_of : Reader → Position
place_of s = place (s.count + 1) s.offset

-- the reader t is s, moved to offset p after n records
pub record Moved (s t : Reader) (p n : ℕ) : Type 0 where
  pub file : t.file.now ≡ s.file.now
  pub offset : t.offset ≡ p
  pub count : t.count ≡ n

-- the record x, which ends before offset p, is given if it is well named: then the reader moves on
abbrev pub Given : Rec → ℕ → Reader → Result (Option Record) RecordFault → Reader → Type 0
Given x p s (Ok None) t = ⊥
Given x p s (Ok (Some y)) t = (well_named x ≡ true) × (view y ≡ x) × Moved s t p (s.count + 1)
Given x p s (Err f) t = (well_named x ≡ false) × (f ≡ BadName (place_of s)) × Moved s t s.offset s.count

-- one call, by what stands where the reader is; at the end and at a fault it stays there
abbrev pub Follows : Step → Reader → Result (Option Record) RecordFault → Reader → Type 0
Follows end s r t = (r ≡ Ok None) × Moved s t s.offset s.count
Follows (bad f) s r t = (r ≡ Err (File f)) × Moved s t s.offset s.count
Follows (got x p) s r t = Given x p s r t

abbrev pub here : Reader → Step
here s = stands s.file.now (place_of s)

abbrev pub Next : Reader → Result (Option Record) RecordFault → Reader → Type 0
Next s r t = Follows (here s) s r t

-- Inside one call: what was seen of the bytes from the reader's offset on.
abbrev pub seen : Result (Option (Record × ℕ)) FileFault → Step
seen (Ok None) = end
seen (Ok (Some x)) = got (view x.0) x.1
seen (Err f) = bad f

-- a record that is seen from offset p on has two bytes at least, and ends by offset q
abbrev pub Within : ℕ → ℕ → Result (Option (Record × ℕ)) FileFault → Type 0
Within p q r = IfOk r (λ o. IfSome o (λ x. (p + 2 ≤ x.1) × (x.1 ≤ q)))
