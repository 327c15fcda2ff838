use Rattle.expanded.proofs.Checker.{lists_sound}
use Rattle.lane_network_tests.proofs.tests.schedule.Goals as goal

pub invariant_of-result : goal.invariant_of-result
invariant_of-result c =
    let sound = lists_sound c.args.horizon c.args.origin c.args.lanes.now c.args.capacities.now c.args.depots.now c.requires in
    record { sound = sound.0; rows = sound.1 }
