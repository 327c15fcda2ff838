use Rattle.live_times.proofs.Steps.{none_at}
use Rattle.live_times.proofs.times.no_times.Goals as goal

pub returns : goal.returns
returns c = λ y. none_at 32 y
