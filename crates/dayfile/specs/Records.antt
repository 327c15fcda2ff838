-- What the bytes of a record mean.
use Rattle.std.specs.Prelude.{◌≡◌, ℕ, ◌+◌, ◌*◌, ◌<◌, ◌≤◌, Bool, true, List, length, take, drop, Some, None, Option, slice_index}
use Rattle.dayfile.specs.declared.mark.Mark.{Mark}
use Rattle.dayfile.specs.declared.mark.Mark.TheVariants.{Hz, Yn, Ln, Dp, Sd, Hd, Bk, Rl, Qt, Rs}
use Rattle.dayfile.specs.declared.record.Record.{Record}
use Rattle.dayfile.specs.declared.record.Record.TheVariants as code
use Rattle.dayfile.specs.declared.record.Fields.{Fields}
use Rattle.dayfile.specs.Names.{is_name}

-- A record: the numbers in its fields, and a name as its bytes with the offset in the file at which they begin.
pub data Rec : Type 0 where
  opening : (horizon origin : ℕ) → Rec
  yard_name : (yard offset : ℕ) (name : List ℕ) → Rec
  lane : (from to transit capacity : ℕ) → Rec
  depot : (yard : ℕ) → Rec
  departure : (lane period capacity : ℕ) → Rec
  hold : (yard pallets : ℕ) → Rec
  book : (slip : ℕ) → Rec
  release : (slip : ℕ) → Rec
  quote : (ranking : ℕ) → Rec
  run_sheet : Rec

-- what a record of the code says
abbrev pub view : Record → Rec
view (code.Open h o) = opening h o
view (code.YardName y p n) = yard_name y p n.now
view (code.Lane f t h c) = lane f t h c
view (code.Depot y) = depot y
view (code.Departure l t c) = departure l t c
view (code.Hold y n) = hold y n
view (code.Book s) = book s
view (code.Release s) = release s
view (code.Quote r) = quote r
view code.RunSheet = run_sheet

-- the mark that a record begins with
abbrev pub mark_of_record : Rec → Mark
mark_of_record (opening h o) = Hz
mark_of_record (yard_name y p n) = Yn
mark_of_record (lane f t h c) = Ln
mark_of_record (depot y) = Dp
mark_of_record (departure l t c) = Sd
mark_of_record (hold y n) = Hd
mark_of_record (book s) = Bk
mark_of_record (release s) = Rl
mark_of_record (quote r) = Qt
mark_of_record run_sheet = Rs

-- one byte, and two bytes with the more significant first
abbrev pub byte : List ℕ → ℕ → ℕ
byte bs i = slice_index bs i

abbrev pub word : List ℕ → ℕ → ℕ
word bs i = byte bs i * 256 + byte bs (i + 1)

-- how many bytes the fields take after a mark, where bs follow it
abbrev pub size : Mark → List ℕ → ℕ
size Hz bs = 2
size Yn bs = 2 + byte bs 1
size Ln bs = 5
size Dp bs = 1
size Sd bs = 4
size Hd bs = 3
size Bk bs = 2
size Rl bs = 2
size Qt bs = 1
size Rs bs = 0

-- the record of a mark and of the bytes bs that follow it, of which the first stands at offset p
abbrev pub record_of : Mark → ℕ → List ℕ → Rec
record_of Hz p bs = opening (byte bs 0) (byte bs 1)
record_of Yn p bs = yard_name (byte bs 0) (p + 2) (take (byte bs 1) (drop 2 bs))
record_of Ln p bs = lane (byte bs 0) (byte bs 1) (byte bs 2) (word bs 3)
record_of Dp p bs = depot (byte bs 0)
record_of Sd p bs = departure (byte bs 0) (byte bs 1) (word bs 2)
record_of Hd p bs = hold (byte bs 0) (word bs 1)
record_of Bk p bs = book (word bs 0)
record_of Rl p bs = release (word bs 0)
record_of Qt p bs = quote (byte bs 0)
record_of Rs p bs = run_sheet

-- n bytes more of the fields were taken
pub record Took (n : ℕ) (s t : Fields) : Type 0 where
  pub within : s.taken + n ≤ length s.bytes.now
  pub bytes : t.bytes.now ≡ s.bytes.now
  pub taken : t.taken ≡ s.taken + n

-- what the fields of a mark give: nothing where they are cut short, else the record and the number of their bytes
abbrev pub Fielded : Mark → ℕ → List ℕ → Option (Record × ℕ) → Type 0
Fielded m p bs None = length bs < size m bs
Fielded m p bs (Some x) = (size m bs ≤ length bs) × (view x.0 ≡ record_of m p bs) × (x.1 ≡ size m bs)

-- a name, where the record has one, is as a name should be
abbrev pub well_named : Rec → Bool
well_named (opening h o) = true
well_named (yard_name y p n) = is_name n
well_named (lane f t h c) = true
well_named (depot y) = true
well_named (departure l t c) = true
well_named (hold y n) = true
well_named (book s) = true
well_named (release s) = true
well_named (quote r) = true
well_named run_sheet = true
