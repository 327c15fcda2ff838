use Rattle.std.proofs.Common.{Result, sym, ◌∙◌, subst}
use Rattle.roads.specs.Grids.{grid_of}
use Rattle.slips.specs.declared.refusal.SlipRefusal.{SlipRefusal}
use Rattle.slips.specs.declared.slip.Slip.{Slip}
use Rattle.slips.specs.Holds.{Held}
use Rattle.board.proofs.Holding.{hold_short, hold_done, hold_kept}
use Rattle.board.proofs.Kept.{kept_on}
use Rattle.board.proofs.Lists.{front}
use Rattle.board.proofs.board.Board.hold.Goals as goal

pub returns-then-is_err-clause-answer : goal.returns-then-is_err-clause-answer
returns-then-is_err-clause-answer c =
    let b = c.args.self.now in
    hold_short (grid_of b.roads) b.slips c.args.yard c.args.pallets c.in_ok-check_hold.ensures _
    (front _ _ _ _ c.depots-depots.ensures c.owed_with-owed.ensures.list) b.loads _ _ c.find-found.ensures (sym c.is_err.ensures.value ∙ c.if-is_err.true)

pub invariant_of-self-2 : goal.invariant_of-self-2
invariant_of-self-2 c =
    let b = c.args.self.now in
    hold_kept (grid_of b.roads) b.slips c.args.yard c.args.pallets c.in_ok-check_hold.ensures _
    (front _ _ _ _ c.depots-depots.ensures c.owed_with-owed.ensures.list) b.loads _ _ c.find-found.ensures _ _ c.hold.ensures (sym c.is_err.ensures.value ∙ c.if-is_err.false) (kept_on b)

pub returns-clause-answer : goal.returns-clause-answer
returns-clause-answer c =
    let b = c.args.self.now in
    let gives = subst (λ (r : Result Slip SlipRefusal). Held b.slips c.args.yard c.args.pallets r c.hold.new.self) c.unwrap.ensures c.hold.ensures in
    hold_done (grid_of b.roads) b.slips c.args.yard c.args.pallets c.in_ok-check_hold.ensures _
    (front _ _ _ _ c.depots-depots.ensures c.owed_with-owed.ensures.list) b.loads _ _ c.find-found.ensures _ _ gives (sym c.is_err.ensures.value ∙ c.if-is_err.false)
