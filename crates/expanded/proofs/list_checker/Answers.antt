use Rattle.expanded.proofs.Checker.{lists_sound}
use Rattle.expanded.proofs.list_checker.Goals as goal

pub returns : goal.returns
returns c = lists_sound
