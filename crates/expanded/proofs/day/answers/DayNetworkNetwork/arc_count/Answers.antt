use Rattle.std.proofs.Common.{slice_index, arith}
use Rattle.day_network.specs.DayNetwork.{departure_arc, depot_arc, owed_arc}
use Rattle.day_network.proofs.Arcs.{length_listed}
use Rattle.expanded.specs.Schedules.{timetable_of}
use Rattle.expanded.proofs.day.answers.DayNetworkNetwork.arc_count.Goals as goal

pub returns : goal.returns
returns g c =
    let S = timetable_of c.args.self.now.schedule in
    let owed = slice_index c.args.self.now.owed.now in
    omega (arith, length_listed S (departure_arc S) (depot_arc S owed) (owed_arc owed))
