use Rattle.roads.specs.Grids.{grid_of}
use Rattle.slips.specs.Holds.{holds}
use Rattle.board.specs.Planned.{plan_in}
use Rattle.board.proofs.Kept.{kept_on}
use Rattle.board.proofs.Steps.{named_kept}
use Rattle.board.proofs.board.Board.name_depot.Goals as goal

pub invariant_of-self : goal.invariant_of-self
invariant_of-self c =
    let b = c.args.self.now in
    named_kept (grid_of b.roads) c.args.yard (holds b.slips) (plan_in b.loads) (kept_on b) _ _ c.name_depot.ensures
