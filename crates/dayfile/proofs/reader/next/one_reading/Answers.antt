use Rattle.dayfile.proofs.One.{one_reading_lem}
use Rattle.dayfile.proofs.reader.next.one_reading.Goals as goal

pub returns : goal.returns
returns c = one_reading_lem
