use Rattle.std.proofs.Common.{sym, ◌∙◌}
use Rattle.roads.specs.Grids.{grid_of}
use Rattle.slips.specs.Holds.{holds}
use Rattle.board.proofs.Kept.{kept_on}
use Rattle.board.proofs.Setting.{set_kept, set_done, unset_kept, unset_done}
use Rattle.board.proofs.board.Board.set_departure.Goals as goal

pub invariant_of-self-then-is_err : goal.invariant_of-self-then-is_err
invariant_of-self-then-is_err c =
    let b = c.args.self.now in
    unset_kept (grid_of b.roads) _ c.args.lane c.args.period c.args.capacity _ c.in_ok-had.ensures
    b.roads.rows (holds b.slips) b.loads _ _ _ (b.roads.sound.bounded _ _) c.set_capacity-then-is_err.ensures _
    c.find_again-found.ensures (sym c.is_err.ensures.value ∙ c.if-is_err.true) (kept_on b)

pub invariant_of-self-else-is_err : goal.invariant_of-self-else-is_err
invariant_of-self-else-is_err c =
    let b = c.args.self.now in
    set_kept (grid_of b.roads) _ c.args.lane c.args.period c.args.capacity _ c.in_ok-had.ensures
    b.roads.rows (holds b.slips) b.loads _ _
    c.find_again-found.ensures (sym c.is_err.ensures.value ∙ c.if-is_err.false) (kept_on b)

pub returns-then-is_err-clause-answer : goal.returns-then-is_err-clause-answer
returns-then-is_err-clause-answer c =
    let b = c.args.self.now in
    unset_done (grid_of b.roads) _ c.args.lane c.args.period c.args.capacity _ c.in_ok-had.ensures
    b.roads.rows (holds b.slips) b.loads _ _ _ (b.roads.sound.bounded _ _) c.set_capacity-then-is_err.ensures _
    c.find_again-found.ensures (sym c.is_err.ensures.value ∙ c.if-is_err.true)

pub returns-else-is_err-clause-answer : goal.returns-else-is_err-clause-answer
returns-else-is_err-clause-answer c =
    let b = c.args.self.now in
    set_done (grid_of b.roads) _ c.args.lane c.args.period c.args.capacity _ c.in_ok-had.ensures
    b.roads.rows (holds b.slips) b.loads _ _
    c.find_again-found.ensures (sym c.is_err.ensures.value ∙ c.if-is_err.false)
