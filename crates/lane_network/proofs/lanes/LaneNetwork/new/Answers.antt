use Rattle.expanded.specs.Schedules.{timetable_of}
use Rattle.lane_network.proofs.Made.{lanes_make, lanes_named}
use Rattle.lane_network.proofs.lanes.LaneNetwork.new.Goals as goal

pub invariant_of-result : goal.invariant_of-result
invariant_of-result c =
    let s = c.args.schedule in
    record {
      counted = s.sound.few_lanes;
      makes = rw (c.into.ensures, c.arcs_of.ensures) (lanes_make (timetable_of s) s.sound c.ranks_of.result c.ranks_of.ensures.sized c.ranks_of.ensures.ranked);
    }

pub returns : goal.returns
returns c =
    let s = c.args.schedule in
    rw (c.into.ensures, c.arcs_of.ensures) (lanes_named (timetable_of s) s.sound c.ranks_of.result c.ranks_of.ensures.sized c.ranks_of.ensures.ranked)
