use Rattle.std.proofs.Common.{arith, ◌∙◌, ap, add-one}
use Rattle.std.specs.Prelude.{◌||◌}
use Rattle.std.proofs.lemmas.Grind.{common_steps}
use Rattle.live_times.specs.Times.{by, time_of}
use Rattle.live_times.proofs.Steps.{one_more, not_here}
use Rattle.live_times.proofs.arrival.by_one_more.Goals as goal
use Rattle.live_times.proofs.arrival.by_one_more.Goals.{then-to-lt32, else-to-lt32}

pub loop-lane-preserved : goal.loop-lane-preserved
loop-lane-preserved c =
    elim c.if-to-lt32.branch [
      | then-to-lt32 w ↦ record {
        yards = rw w.next-is (grind (arith, common_steps, c.loop-lane.invariant.yards));
        reached = λ y t in_range period.
            rw (w.next-is, add-one c.loop-lane.lane-index) (one_more (λ v. by v t) c.loop-lane.next c.from-to.result _ y w.earlier.result _ _ _ (omega (arith, w.if-to-lt32.true, c.loop-lane.invariant.yards)) c.from-to.ensures
            (w.earlier.ensures t ∙ ap (λ u. by (time_of c.loop-lane.next c.from-to.result) t || u) (rw w.time_at.ensures.at at (w.arrival-arrives.ensures t period)))
            (c.loop-lane.invariant.reached y t in_range period));
      }
      | else-to-lt32 w ↦ record {
        yards = rw w.next-is c.loop-lane.invariant.yards;
        reached = λ y t in_range period.
            rw (w.next-is, add-one c.loop-lane.lane-index) (not_here _ y _ _ _ _ (λ q. absurd (omega (arith, q, w.if-to-lt32.false, c.from-to.ensures, in_range))) (c.loop-lane.invariant.reached y t in_range period));
      }
    ]
