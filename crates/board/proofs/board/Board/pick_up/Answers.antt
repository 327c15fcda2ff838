use Rattle.roads.specs.Grids.{grid_of}
use Rattle.board.specs.Planned.{plan_in}
use Rattle.board.proofs.Kept.{kept_on}
use Rattle.board.proofs.Slips.{picked_kept}
use Rattle.board.proofs.board.Board.pick_up.Goals as goal

pub invariant_of-self : goal.invariant_of-self
invariant_of-self c =
    let b = c.args.self.now in
    picked_kept (grid_of b.roads) (plan_in b.loads) b.slips _ c.args.number _ c.pick_up.ensures (kept_on b)
