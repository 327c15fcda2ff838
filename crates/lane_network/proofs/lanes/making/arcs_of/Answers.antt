use Rattle.std.proofs.Common.{◌∙◌, arith}
use Rattle.expanded.specs.Schedules.{timetable_of}
use Rattle.lane_network.proofs.Filled.{filled_more, filled_all}
use Rattle.lane_network.proofs.lanes.making.arcs_of.Goals as goal

pub loop-number-preserved : goal.loop-number-preserved
loop-number-preserved c =
    let capacity = c.into-in-loop-number-2.ensures ∙ c.capacity_of-capacity.ensures in
    filled_more (timetable_of c.args.schedule) c.loop-number.number c.loop-number.arcs _ _ _ c.into.ensures c.into-in-loop-number.ensures capacity (omega (arith, c.args.schedule.sound.few_lanes)) c.loop-number.invariant

pub returns : goal.returns
returns c =
    let s = c.args.schedule in
    filled_all (timetable_of s) c.loop-number.number c.loop-number.arcs (omega arith) (omega (arith, s.sound.few_lanes)) c.loop-number.invariant
