use Rattle.flow.proofs.Example.{example_served}
use Rattle.flow.proofs.example_is_served.Goals as goal

pub returns : goal.returns
returns c = example_served
