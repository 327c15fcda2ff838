use Rattle.std.proofs.Common.{slice_index, arith}
use Rattle.day_network.proofs.Brought.{node_count_is}
use Rattle.expanded.specs.Days.{ranks_of}
use Rattle.expanded.specs.Schedules.{timetable_of}
use Rattle.planning.proofs.Sizes.{few_arcs}
use Rattle.planning.proofs.planner.Planner.serve.Goals as goal

pub serve_with-requires-clause-for_arcs : goal.serve_with-requires-clause-for_arcs
serve_with-requires-clause-for_arcs g c =
    let n = c.args.day.now in
    let few = few_arcs (timetable_of n.schedule) n.schedule.sound (slice_index n.owed.now) (ranks_of g.R.Ranking.meaning n) in
    (omega arith, omega arith, omega arith, omega arith)

pub serve_with-requires-clause-for_nodes : goal.serve_with-requires-clause-for_nodes
serve_with-requires-clause-for_nodes g c =
    (omega (arith, node_count_is), omega (arith, node_count_is), omega (arith, node_count_is), omega (arith, node_count_is))
