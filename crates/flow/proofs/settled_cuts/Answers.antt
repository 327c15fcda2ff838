use Rattle.flow.proofs.Duality.{certificate, smallest_cut, one_bottleneck}
use Rattle.flow.proofs.settled_cuts.Goals as goal

pub returns : goal.returns
returns c = record { certificate = certificate; smallest = smallest_cut; same = one_bottleneck }
