use Rattle.flow.proofs.Duality.{weak_duality_lem}
use Rattle.flow.proofs.weak_duality.Goals as goal

pub returns : goal.returns
returns c = weak_duality_lem
