use Rattle.std.proofs.Common.{arith, ◌∙◌, ap, add-one}
use Rattle.std.specs.Prelude.{◌||◌}
use Rattle.std.proofs.lemmas.Grind.{common_steps}
use Rattle.live_times.specs.Times.{until, time_of}
use Rattle.live_times.proofs.Steps.{one_more, not_here}
use Rattle.live_times.proofs.departure.by_one_more.Goals as goal
use Rattle.live_times.proofs.departure.by_one_more.Goals.{then-from-lt32, else-from-lt32}

pub loop-lane-preserved : goal.loop-lane-preserved
loop-lane-preserved c =
    elim c.if-from-lt32.branch [
      | then-from-lt32 w ↦ record {
        yards = rw w.next-is (grind (arith, common_steps, c.loop-lane.invariant.yards));
        left = λ y t in_range.
            rw (w.next-is, add-one c.loop-lane.lane-index) (one_more (λ v. until v t) c.loop-lane.next c.from-from.result _ y w.later.result _ _ _ (omega (arith, w.if-from-lt32.true, c.loop-lane.invariant.yards)) c.from-from.ensures
            (w.later.ensures t ∙ ap (λ u. until (time_of c.loop-lane.next c.from-from.result) t || u) (rw w.time_at.ensures.at at (w.departure-leaves.ensures t)))
            (c.loop-lane.invariant.left y t in_range));
      }
      | else-from-lt32 w ↦ record {
        yards = rw w.next-is c.loop-lane.invariant.yards;
        left = λ y t in_range.
            rw (w.next-is, add-one c.loop-lane.lane-index) (not_here _ y _ _ _ _ (λ q. absurd (omega (arith, q, w.if-from-lt32.false, c.from-from.ensures, in_range))) (c.loop-lane.invariant.left y t in_range));
      }
    ]
