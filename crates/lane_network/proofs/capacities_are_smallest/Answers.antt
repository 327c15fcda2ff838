use Rattle.lane_network.proofs.Smallest.{capacity_smallest}
use Rattle.lane_network.proofs.capacities_are_smallest.Goals as goal

pub returns : goal.returns
returns c = capacity_smallest
