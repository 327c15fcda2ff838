use Rattle.std.proofs.Common.{◌-◌, length, string_bytes}
use Rattle.session.specs.Days.{day_of}
use Rattle.lines.proofs.Sofar.{Sofar}
use Rattle.lines.proofs.listing.listing.Given as goal

abbrev pub invariant-lines : goal.invariant-lines
invariant-lines l = Sofar l.file l.reader (day_of l.session) (string_bytes l.out)

-- each record has two bytes at least
abbrev pub decreases-lines : goal.decreases-lines
decreases-lines l = length l.file - l.reader.count
