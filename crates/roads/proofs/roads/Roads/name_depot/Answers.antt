use Rattle.std.proofs.Common.{arith, sym, ◌∙◌, vec_items}
use Rattle.roads.proofs.Growing.{depot_more}
use Rattle.roads.proofs.roads.Roads.name_depot.Goals as goal

pub invariant_of-self-clause-sound : goal.invariant_of-self-clause-sound
invariant_of-self-clause-sound c =
    let r = c.args.self.now in
    rw c.push_reserved.ensures.items
    (depot_more r.horizon r.origin (vec_items r.lanes) (vec_items r.capacities) (vec_items r.depots) r.sound c.args.yard
    (omega (arith, c.if-yard-gt-LAST_YARD.false)) c.if-yard-self.false (sym c.is_depot.ensures ∙ c.if-is_depot.false)
    (omega (arith, c.if-order-ge-MOST_DEPOTS.false, c.len-order.ensures)))
