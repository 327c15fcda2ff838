use Rattle.std.proofs.lemmas.List.{map-set}
use Rattle.session.proofs.names.Names.set.Goals as goal

pub returns : goal.returns
returns c = map-set _ _ _ _
