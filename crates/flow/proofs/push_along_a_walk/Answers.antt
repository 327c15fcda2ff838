use Rattle.flow.proofs.Pushing.{push_carries, walk_carries, augments, nothing_flows, bounded}
use Rattle.flow.proofs.push_along_a_walk.Goals as goal

pub returns : goal.returns
returns c = record { step = push_carries; walk = walk_carries; augments = augments; start = nothing_flows; bound = bounded }
