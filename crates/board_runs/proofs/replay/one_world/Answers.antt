use Rattle.board_runs.proofs.Worlds.{one_world}
use Rattle.board_runs.proofs.replay.one_world.Goals as goal

pub returns : goal.returns
returns c = one_world
