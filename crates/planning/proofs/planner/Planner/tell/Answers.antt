use Rattle.std.proofs.Common.{suc, ◌+◌, ◌*◌, List, ℕ, drop, ◌∙◌, ap, arith}
use Rattle.std.proofs.lemmas.List.{get_or_append_left, length-take-le}
use Rattle.expanded.specs.Schedules.{timetable_of}
use Rattle.planning.specs.Marks.{mark_at}
use Rattle.planning.proofs.Places.{place_low}
use Rattle.planning.proofs.planner.Planner.tell.Goals as goal

pub returns-clause-marks : goal.returns-clause-marks
returns-clause-marks g c y t l m =
    let h = c.args.schedule.horizon in
    let new = c.write_marks.new.marks in
    let count = 32 * (c.from.result + 1) in
    get_or_append_left new (drop count c.args.marks.now) 0 (y * suc h + t) (omega (arith, place_low 32 (suc h) y t l (omega arith), c.write_marks.auto.marks, length-take-le count c.args.marks.now (omega (arith, c.requires.marks, c.from.ensures)), c.from.ensures))
    ∙ c.write_marks.ensures y t l m
    ∙ ap (λ (ms : List ℕ). mark_at (timetable_of c.args.schedule) c.args.ranks ms y t) c.deref-2.ensures.value
