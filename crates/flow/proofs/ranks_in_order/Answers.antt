use Rattle.flow.proofs.Ranks.{nested, all_greatest, lexicographic}
use Rattle.flow.proofs.ranks_in_order.Goals as goal

pub returns : goal.returns
returns c = record { nested = nested; greatest = all_greatest; lexicographic = lexicographic }
