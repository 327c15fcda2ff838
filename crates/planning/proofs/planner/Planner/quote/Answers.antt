use Rattle.std.proofs.Common.{◌≡◌, ℕ, suc, ◌+◌, ◌*◌, Some, true, length, drop, get_or, slice_index, ◌∙◌, ap, subst, arith}
use Rattle.std.proofs.lemmas.Bool.{and_from, le-leb}
use Rattle.flow.specs.Network.{Network}
use Rattle.ranking.specs.Ranking.{Ranking}
use Rattle.timetable.specs.Quotes.{Right, all_owed}
use Rattle.day_network.specs.DayNetwork.{day}
use Rattle.expanded.specs.Schedules.{timetable_of}
use Rattle.expanded.specs.declared.schedule.Schedule.{Schedule}
use Rattle.planning.specs.Found.{Found}
use Rattle.planning.specs.Marks.{mark_at}
use Rattle.planning.specs.Quotes.{have_room}
use Rattle.planning.proofs.Marks.{right}
use Rattle.planning.proofs.Networks.{network_is}
use Rattle.planning.proofs.planner.Planner.quote.Goals as goal

pub returns : goal.returns
returns g c =
    let s = c.args.schedule in
    let S = timetable_of s in
    let owed = c.args.owed.now in
    let p = c.ask.new.self in
    let figures = c.args.figures.now in
    let marks = c.args.marks.now in
    let meaning = g.R.Ranking.meaning in
    let Q : Ranking = meaning c.args.ranking (length s.depots.now) s.horizon in
    let made = c.in_ok-day.ensures in
    let count : c.rank_count-ranks.result ≡ Q.ranks = c.rank_count-ranks.ensures in
    let served : Found (day S (slice_index owed) (Some Q)) (suc Q.ranks) p =
    subst (λ (k : ℕ). Found (day S (slice_index owed) (Some Q)) k p) (let more : c.rank_count-ranks.result + 1 ≡ suc Q.ranks = omega arith in more)
    (subst (λ (N : Network). Found N (c.rank_count-ranks.result + 1) p) (network_is meaning c.in_ok-day.day s owed (Some c.args.ranking) made.1 made.2 made.3) c.ask.ensures.found) in
    let all : get_or p.figures.items 0 0 ≡ all_owed S (slice_index owed) = c.ask.ensures.brought c.if-not-ask.false ∙ ap (λ (x : Schedule). all_owed (timetable_of x) (slice_index owed)) made.1 in
    let room : have_room s Q figures marks ≡ true = and_from _ _ (le-leb Q.ranks (length figures) (omega (arith, c.from-2.ensures))) (le-leb (32 * suc s.horizon) (length marks) (omega (arith, c.from.ensures))) in
    let told : Right S (slice_index owed) Q c.tell.new.figures c.tell.new.marks =
    right S s.sound (slice_index owed) Q _ p.marks.items p.figures.items served all c.tell.new.figures c.tell.new.marks
    (λ r l. c.tell.ensures.figures r (omega arith))
    (λ y t l m. c.tell.ensures.marks y t l m ∙ ap (λ (k : ℕ). mark_at S k p.marks.items y t) count) in
    (made.0, room, told, subst (λ (k : ℕ). drop k c.tell.new.figures ≡ drop k figures) count c.tell.ensures.behind, c.tell.ensures.past)
