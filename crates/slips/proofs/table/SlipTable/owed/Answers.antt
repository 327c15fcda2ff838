use Rattle.slips.proofs.Owing.{owed_laws}
use Rattle.slips.proofs.table.SlipTable.owed.Goals as goal

pub returns-clause-laws : goal.returns-clause-laws
returns-clause-laws c = owed_laws
