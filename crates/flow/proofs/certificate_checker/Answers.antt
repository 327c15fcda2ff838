use Rattle.flow.proofs.Checked.{certified_most, certified_first}
use Rattle.flow.proofs.certificate_checker.Goals as goal

pub returns : goal.returns
returns c = record { most = certified_most; first = certified_first }
