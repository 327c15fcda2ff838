use Rattle.std.proofs.Common.{arith, vec_items}
use Rattle.roads.proofs.Growing.{lane_more}
use Rattle.roads.proofs.roads.Roads.add_lane.Goals as goal

pub invariant_of-self-clause-sound : goal.invariant_of-self-clause-sound
invariant_of-self-clause-sound c =
    let r = c.args.self.now in
    rw c.push_reserved.ensures.items
    (rw c.push_reserved-2.ensures.items
    (lane_more r.horizon r.origin (vec_items r.lanes) (vec_items r.capacities) (vec_items r.depots) r.sound c.args.lane c.args.capacity r.rows
    (omega (arith, c.if-lane-gt-LAST_YARD.false)) (omega (arith, c.if-lane-gt-LAST_YARD-2.false)) (omega (arith, c.if-lane-lt1.false))
    (omega (arith, c.if-lane-gt-LAST_PERIOD.false)) (omega (arith, c.if-capacity-gt-MOST_CAPACITY.false)) c.if-lane-self.false c.if-lane.false
    (omega (arith, c.if-number-ge-MOST_LANES.false, c.len-number.ensures))))
