use Rattle.std.proofs.Common.{◌++◌, None, length, take, drop, slice_index, ◌∙◌, ap, subst, arith}
use Rattle.std.proofs.lemmas.List.{length-take-le}
use Rattle.flow.specs.Network.{Network}
use Rattle.ranking.specs.Ranking.{by_depot}
use Rattle.ranking.specs.declared.DepotOrder.{DepotOrder}
use Rattle.timetable.specs.Quotes.{all_owed}
use Rattle.day_network.specs.DayNetwork.{day, lane_arcs}
use Rattle.expanded.specs.Schedules.{timetable_of}
use Rattle.expanded.specs.declared.schedule.Schedule.{Schedule}
use Rattle.planning.specs.Found.{Found}
use Rattle.planning.proofs.Fronts.{Over, front_at, behind}
use Rattle.planning.proofs.Networks.{network_is}
use Rattle.planning.proofs.Plans.{told}
use Rattle.planning.proofs.planner.Planner.plan.Goals as goal

pub returns : goal.returns
returns c =
    let s = c.args.schedule in
    let S = timetable_of s in
    let owed = c.args.owed.now in
    let p = c.ask.new.self in
    let k = lane_arcs S in
    let old = c.args.plan.now in
    let front = take k p.loads.items in
    let made = c.in_ok-day.ensures in
    let same = network_is (λ (r : DepotOrder) depots horizon. by_depot depots) c.in_ok-day.day s owed None made.1 made.2 made.3 in
    let served : Found (day S (slice_index owed) None) 1 p = subst (λ (N : Network). Found N 1 p) same c.ask.ensures.found in
    let all = c.ask.ensures.brought c.if-not-ask.false ∙ ap (λ (x : Schedule). all_owed (timetable_of x) (slice_index owed)) made.1 in
    let over : Over k old front c.write_over.new.list = (
      length-take-le k p.loads.items (omega (arith, s.sound.few_lanes, p.loads_fit)),
      c.write_over.ensures ∙ ap (λ xs. take k xs ++ drop (length (take k xs)) old) c.deref.ensures.value,
    ) in
    let plan = told S s.sound (slice_index owed) p.loads.items p.marks.items p.figures.items served all c.write_over.new.list (front_at k old front c.write_over.new.list over) in
    (made.0, omega arith, plan.feasible, plan.delivers, behind k old front c.write_over.new.list over, plan.nowhere_else)
