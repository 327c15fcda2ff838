use Rattle.lane_network.proofs.Rates.{one_rate}
use Rattle.lane_network.proofs.rates_are_one.Goals as goal

pub returns : goal.returns
returns c = one_rate
