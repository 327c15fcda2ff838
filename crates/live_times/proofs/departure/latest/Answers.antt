use Rattle.std.proofs.Common.{arith, sym, add-one, subst}
use Rattle.live_times.specs.Times.{GoUntil}
use Rattle.live_times.proofs.Rounds.{go_more}
use Rattle.live_times.proofs.departure.latest.Goals as goal

pub loop-init : goal.loop-init
loop-init c = λ S sound eh el ed y t in_range. rw (eh, ed) (sym (c.at_depots-start.ensures y t in_range))

pub loop-preserved : goal.loop-preserved
loop-preserved c = λ S sound eh el ed y t in_range.
    rw (add-one c.loop.counter) (go_more S sound c.loop.counter _ c.at_depots-start.result c.loop.times _ el
    (λ y t i. rw (eh, ed) (sym (c.at_depots-start.ensures y t i)))
    (c.loop.invariant S sound eh el ed)
    (λ y t i. c.by_one_more-times.ensures y t i)
    y t in_range)

pub returns : goal.returns
returns c = λ S sound eh el ed. subst (λ n. GoUntil S n c.loop.times) (omega (arith, c.loop-test.false, c.loop.auto.counter-end)) (c.loop.invariant S sound eh el ed)
