use Rattle.day_network.proofs.Build.{built_is_day}
use Rattle.day_network.proofs.lists_are_the_network.Goals as goal

pub returns : goal.returns
returns c = built_is_day
