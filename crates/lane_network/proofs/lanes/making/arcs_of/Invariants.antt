use Rattle.expanded.specs.Schedules.{timetable_of}
use Rattle.lane_network.proofs.Filled.{Filled}
use Rattle.lane_network.proofs.lanes.making.arcs_of.Given as goal

abbrev pub invariant-loop-number : goal.invariant-loop-number
invariant-loop-number l = Filled (timetable_of l.schedule) l.number l.arcs
