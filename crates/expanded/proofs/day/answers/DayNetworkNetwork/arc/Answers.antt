use Rattle.std.proofs.Common.{◌<◌, slice_index, sym, ◌∙◌, arith}
use Rattle.flow.specs.Pushing.{no_arc}
use Rattle.day_network.specs.DayNetwork.{arc_count, departure_arc, depot_arc, owed_arc}
use Rattle.day_network.proofs.Arcs.{length_listed, listed_at}
use Rattle.expanded.specs.Schedules.{timetable_of}
use Rattle.expanded.proofs.day.answers.DayNetworkNetwork.arc.Goals as goal

pub numbered-requires : goal.numbered-requires
numbered-requires g c =
    let S = timetable_of c.args.self.now.schedule in
    let owed = slice_index c.args.self.now.owed.now in
    omega (arith, c.requires, length_listed S (departure_arc S) (depot_arc S owed) (owed_arc owed))

pub returns : goal.returns
returns g c =
    let S = timetable_of c.args.self.now.schedule in
    let owed = slice_index c.args.self.now.owed.now in
    let in' : c.args.number < arc_count S = omega (arith, c.requires, length_listed S (departure_arc S) (depot_arc S owed) (owed_arc owed)) in
    c.numbered.ensures ∙ sym (listed_at S (departure_arc S) (depot_arc S owed) (owed_arc owed) c.args.number no_arc in')
