use Rattle.expanded.specs.Schedules.{timetable_of}
use Rattle.lane_network.proofs.Ranked.{ranked_none, ranked_more}
use Rattle.lane_network.proofs.lanes.making.ranks_of.Goals as goal

pub loop-depot-init : goal.loop-depot-init
loop-depot-init c = ranked_none (timetable_of c.args.schedule)

pub loop-depot-preserved : goal.loop-depot-preserved
loop-depot-preserved c =
    let s = c.args.schedule in
    ranked_more (timetable_of s) c.loop-depot.depot-index c.loop-depot.ranks c.loop-depot.invariant (s.sound.yards c.loop-depot.depot-index c.loop-depot-test.true).0
