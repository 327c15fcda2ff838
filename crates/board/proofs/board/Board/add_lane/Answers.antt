use Rattle.roads.specs.Grids.{grid_of}
use Rattle.slips.specs.Holds.{holds}
use Rattle.board.specs.Planned.{plan_in}
use Rattle.board.proofs.Kept.{kept_on}
use Rattle.board.proofs.Steps.{added_kept}
use Rattle.board.proofs.board.Board.add_lane.Goals as goal

pub invariant_of-self-2 : goal.invariant_of-self-2
invariant_of-self-2 c =
    let b = c.args.self.now in
    added_kept (grid_of b.roads) _ c.args.lane c.args.capacity _ (holds b.slips) (plan_in b.loads) _
    c.in_ok-number.ensures b.roads.rows b.roads.sound.periods.1 c.clear_lane.ensures.others c.clear_lane.ensures.own (kept_on b)
