use Rattle.day_network.proofs.DayQuotes.{release, release_flow}
use Rattle.day_network.proofs.less_can_be_owed.Goals as goal

pub returns : goal.returns
returns c = record { plan = release; flow = release_flow }
