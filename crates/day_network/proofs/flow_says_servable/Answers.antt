use Rattle.day_network.proofs.DayQuotes.{unservable, servable_brought, flow_serves, servable_exactly}
use Rattle.day_network.proofs.flow_says_servable.Goals as goal

pub returns : goal.returns
returns c = record { unservable = unservable; brought = servable_brought; serves = flow_serves; exactly = servable_exactly }
