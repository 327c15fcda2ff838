use Rattle.std.proofs.Common.{◌+◌, ◌∙◌, arith}
use Rattle.flow.proofs.Pushing.{along_length}
use Rattle.search.specs.Layouts.{laid}
use Rattle.search.proofs.Gains.{gain_on, gain_bound, round_less, round_last}
use Rattle.search.proofs.Layouts.{laid_sound, source_width}
use Rattle.search.proofs.rounds.saturate.Goals as goal

pub overflow_add-total : goal.overflow_add-total
overflow_add-total c =
    let N = laid c.args.map in
    let all = gain_on N c.args.k c.args.loads.now c.rounds.loads c.drain-more.new.loads c.rounds.total c.drain-more.result c.rounds.invariant.0 c.drain-more.ensures.gained in
    omega (arith, gain_bound N (laid_sound c.args.map) c.args.k c.args.loads.now c.drain-more.new.loads (c.rounds.total + c.drain-more.result) all, source_width c.args.map)

pub rounds-preserved : goal.rounds-preserved
rounds-preserved c =
    let N = laid c.args.map in
    let some = gain_on N c.args.k c.args.loads.now c.rounds.loads c.drain-more.new.loads c.rounds.total c.drain-more.result c.rounds.invariant.0 c.drain-more.ensures.gained in
    let all = gain_on N c.args.k c.args.loads.now c.drain-more.new.loads c.drain_again-again.new.loads (c.rounds.total + c.drain-more.result) c.drain_again-again.result some c.drain_again-again.ensures.gained in
    (all, c.explore-steps.ensures, c.explore-steps.auto.slots ∙ c.drain_again-again.auto.shut ∙ c.rounds.invariant.2)

pub overflow_add-total-in-rounds : goal.overflow_add-total-in-rounds
overflow_add-total-in-rounds c =
    let N = laid c.args.map in
    let some = gain_on N c.args.k c.args.loads.now c.rounds.loads c.drain-more.new.loads c.rounds.total c.drain-more.result c.rounds.invariant.0 c.drain-more.ensures.gained in
    let all = gain_on N c.args.k c.args.loads.now c.drain-more.new.loads c.drain_again-again.new.loads (c.rounds.total + c.drain-more.result) c.drain_again-again.result some c.drain_again-again.ensures.gained in
    omega (arith, gain_bound N (laid_sound c.args.map) c.args.k c.args.loads.now c.drain_again-again.new.loads (c.rounds.total + c.drain-more.result + c.drain_again-again.result) all, source_width c.args.map)

pub invariant_of-explore : goal.invariant_of-explore
invariant_of-explore c = record { loaded = along_length _ (laid c.args.map).arcs c.drain_again-again.new.loads c.drain_again-again.ensures.gained.flow.fits }

pub rounds-smaller : goal.rounds-smaller
rounds-smaller c =
    let N = laid c.args.map in
    let both = gain_on N c.args.k c.rounds.loads c.drain-more.new.loads c.drain_again-again.new.loads c.drain-more.result c.drain_again-again.result c.drain-more.ensures.gained c.drain_again-again.ensures.gained in
    round_less N (laid_sound c.args.map) c.args.k c.args.loads.now c.rounds.loads c.drain_again-again.new.loads c.rounds.total (c.drain-more.result + c.drain_again-again.result) c.rounds.invariant.0 both (λ e. c.if-more-eq0.false (omega arith))

pub returns-then-more-eq0 : goal.returns-then-more-eq0
returns-then-more-eq0 c =
    let all = round_last (laid c.args.map) c.args.k c.args.loads.now c.rounds.loads c.drain-more.new.loads c.rounds.total c.rounds.visits c.rounds.invariant.0 c.rounds.invariant.1 (c.drain-more.ensures.none c.if-more-eq0.true) in
    record { gained = all.0; found = all.1; cut = all.2; smallest = all.3 }
