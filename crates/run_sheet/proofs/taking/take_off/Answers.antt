use Rattle.std.proofs.Common.{◌∷◌, List, subst}
use Rattle.queue.specs.Items.{items}
use Rattle.board.specs.States.{state_of}
use Rattle.run_sheet.specs.declared.leg.Leg.{Leg}
use Rattle.run_sheet.proofs.Lowering.{Lowering, lowered}
use Rattle.run_sheet.proofs.taking.take_off.Goals as goal

pub loop-leg-preserved : goal.loop-leg-preserved
loop-leg-preserved c =
    let s = state_of c.args.board.now in
    let h = c.loop-leg in
    let so : Lowering s c.args.pallets (items c.args.way.now) c.args.loads.now h.loads c.args.legs.now h.legs (c.in-Some.leg ∷ items c.pop.new.self) h.count =
    subst (λ (ks : List Leg). Lowering s c.args.pallets (items c.args.way.now) c.args.loads.now h.loads c.args.legs.now h.legs ks h.count) c.in-Some.ensures.items h.invariant in
    rw c.place.ensures (lowered s c.args.pallets (items c.args.way.now) c.args.loads.now h.loads c.args.legs.now h.legs h.count c.in-Some.leg (items c.pop.new.self) so c.requires.long c.requires.room)
