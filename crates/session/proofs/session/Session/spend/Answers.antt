use Rattle.std.proofs.Common.{rules, refl}
use Rattle.board.specs.States.{state_of}
use Rattle.session.specs.Performing.{Called}
use Rattle.session.proofs.session.Session.spend.Goals as goal

pub returns : goal.returns
unfolding Called
returns c = (tt, state_of c.spend_picked.new.board, search rules, refl, refl)
