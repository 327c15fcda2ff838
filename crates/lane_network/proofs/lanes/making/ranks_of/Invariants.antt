use Rattle.expanded.specs.Schedules.{timetable_of}
use Rattle.lane_network.proofs.Ranked.{Ranked}
use Rattle.lane_network.proofs.lanes.making.ranks_of.Given as goal

abbrev pub invariant-loop-depot : goal.invariant-loop-depot
invariant-loop-depot l = Ranked (timetable_of l.schedule) l.depot-index l.ranks
