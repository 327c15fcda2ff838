-- A file has one day.
use Rattle.std.specs.Prelude.{◌≡◌, ℕ, List, Result, map}
use Rattle.dayfile.specs.declared.fault.Position.{Position}
use Rattle.dayfile.specs.Records.{Rec}
use Rattle.session.specs.declared.fault.DayFault.{DayFault}
use Rattle.session.specs.Days.{Day}
use Rattle.session.specs.Performing.{Performs}
use Rattle.session.specs.Replies.{Answer}
use Rattle.lines.specs.Listing.{Lists}

-- Performed on a day, a record has one answer, and leaves one day. (Which plan stands on the board is no part of a day.)
abbrev pub OneAnswer : Type 0
OneAnswer =
    (d e u : Day) (x : Rec) (at : Position) (r q : Result Answer DayFault) → Performs d x at r e → Performs d x at q u → (r ≡ q) × (e ≡ u)

-- Two texts of a file tell the same records, with the same answers, and the same fault: they differ in the lines of runs alone.
pub record Alike {file a b : List ℕ} (x : Lists file a) (y : Lists file b) : Type 0 where
  pub records : x.records ≡ y.records
  pub answers : map (λ g. g.0) x.answers ≡ map (λ g. g.0) y.answers
  pub fault : x.fault ≡ y.fault

abbrev pub OneDay : Type 0
OneDay = (file a b : List ℕ) (x : Lists file a) (y : Lists file b) → Alike x y
