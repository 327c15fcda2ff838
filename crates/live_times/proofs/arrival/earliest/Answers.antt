use Rattle.std.proofs.Common.{arith, sym, add-one, subst}
use Rattle.live_times.specs.Times.{ComeFrom}
use Rattle.live_times.proofs.Rounds.{come_more}
use Rattle.live_times.proofs.arrival.earliest.Goals as goal

pub loop-init : goal.loop-init
loop-init c = λ S sound eh eo el y t in_range early. rw eo (sym (c.at_origin-start.ensures y t in_range))

pub loop-preserved : goal.loop-preserved
loop-preserved c = λ S sound eh eo el y t in_range early.
    rw (add-one c.loop.counter) (come_more S sound c.loop.counter _ c.at_origin-start.result c.loop.times _ el
    (λ y t i e. rw eo (sym (c.at_origin-start.ensures y t i)))
    (c.loop.invariant S sound eh eo el)
    (λ y t i e. c.by_one_more-times.ensures y t i (omega (arith, e, eh)))
    y t in_range early)

pub returns : goal.returns
returns c = λ S sound eh eo el. subst (λ n. ComeFrom S n c.loop.times) (omega (arith, c.loop-test.false, c.loop.auto.counter-end)) (c.loop.invariant S sound eh eo el)
