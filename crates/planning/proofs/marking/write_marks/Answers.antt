use Rattle.std.proofs.Common.{◌≡◌, ℕ, suc, ◌+◌, ◌/◌, ◌%◌, slice_index, subst, arith}
use Rattle.expanded.specs.Schedules.{timetable_of}
use Rattle.planning.specs.Marks.{mark_at}
use Rattle.planning.proofs.Places.{by_place}
use Rattle.planning.proofs.marking.write_marks.Goals as goal

pub returns : goal.returns
returns g c y t l m =
    let h = c.args.schedule.horizon in
    let f = mark_at (timetable_of c.args.schedule) c.args.ranks c.args.found.now in
    let width : c.from-periods.result + 1 ≡ suc h = omega (arith, c.from-periods.ensures) in
    by_place 32 (suc h) f c.loop-place.marks (λ k low. subst (λ (n : ℕ). slice_index c.loop-place.marks k ≡ f (k / n) (k % n)) width (c.loop-place.invariant k (omega (arith, c.requires.marks)))) y t l (omega arith)
