use Rattle.flow.proofs.Existence.{best_exists, greatest_bottleneck, first_greatest, first_unique}
use Rattle.flow.proofs.best_flow_exists.Goals as goal

pub returns : goal.returns
returns c = record { exists = best_exists; bottleneck = greatest_bottleneck; greatest = first_greatest; unique = first_unique }
