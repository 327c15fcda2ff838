use Rattle.std.proofs.Common.{sym}
use Rattle.day_network.proofs.Brought.{node_count_is}
use Rattle.expanded.proofs.day.answers.DayNetworkNetwork.node_count.Goals as goal

pub returns : goal.returns
returns g c = sym node_count_is
