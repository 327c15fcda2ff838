use Rattle.std.proofs.Common.{◌≡◌, [], ◌∷◌, ◌++◌, refl, min, arith}
use Rattle.std.proofs.lemmas.Result.{IfOk-at_ok}
use Rattle.queue.specs.Items.{items}
use Rattle.timetable.specs.Plans.{lane}
use Rattle.board.specs.States.{state_of, day}
use Rattle.run_sheet.specs.declared.leg.Leg.{Leg}
use Rattle.run_sheet.specs.Lists.{loads_of}
use Rattle.run_sheet.proofs.Chains.{Following, goes_on}
use Rattle.run_sheet.proofs.finding.follow.Goals as goal

pub loop-lane-preserved : goal.loop-lane-preserved
loop-lane-preserved c =
    let b = c.args.board.now in
    let s = state_of b in
    let p = loads_of s c.args.loads.now in
    let leg : Leg = record { lane = c.in-Some.lane; period = c.loop-lane.period; pallets = c.load_at-load.result } in
    let old = c.loop-lane.way in
    let queue : items c.push.new.self ≡ items old ++ leg ∷ [] = IfOk-at_ok (λ _. items c.push.new.self ≡ items old ++ leg ∷ []) c.unwrap.ensures c.push.ensures.items in
    let so : Following s p c.args.start (items old ++ leg ∷ []) (lane (day s) c.in-Some.lane).to _ (min c.loop-lane.pallets c.load_at-load.result) =
    goes_on s b.roads.sound p (c.requires.kept c.requires.long).1 c.args.start (items old) c.loop-lane.yard c.loop-lane.period c.loop-lane.pallets c.loop-lane.invariant.way leg c.in-Some.ensures refl c.load_at-load.result c.load_at-load.ensures in
    record { way = rw (queue, c.lanes.ensures, c.min-pallets.ensures) so; slots = omega (arith, c.push.ensures.capacity, c.loop-lane.invariant.slots) }
