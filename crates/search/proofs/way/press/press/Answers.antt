use Rattle.std.proofs.Common.{◌+◌, ◌∙◌, arith}
use Rattle.flow.proofs.Pushing.{along_length}
use Rattle.search.specs.Layouts.{laid}
use Rattle.search.proofs.Gains.{gain_on, gain_bound}
use Rattle.search.proofs.Layouts.{laid_sound, source_width}
use Rattle.search.proofs.way.press.press.Goals as goal

pub invariant_of-reopen : goal.invariant_of-reopen
invariant_of-reopen c = record { loaded = along_length _ (laid c.args.map).arcs c.loop.loads c.loop.invariant.0.flow.fits }

pub overflow_add-total : goal.overflow_add-total
overflow_add-total c =
    let N = laid c.args.map in
    let so = c.loop.invariant.0 in
    let one = c.augment.ensures.gained c.args.k so.idle c.requires.below in
    let all = gain_on N c.args.k c.args.loads.now c.loop.loads c.augment.new.loads c.loop.total c.augment.result so one in
    omega (arith, gain_bound N (laid_sound c.args.map) c.args.k c.args.loads.now c.augment.new.loads (c.loop.total + c.augment.result) all, source_width c.args.map, c.from-total.ensures)

pub loop-preserved : goal.loop-preserved
loop-preserved c =
    let so = c.loop.invariant in
    let one = c.augment.ensures.gained c.args.k so.0.idle c.requires.below in (
      rw c.from-total.ensures (gain_on (laid c.args.map) c.args.k c.args.loads.now c.loop.loads c.augment.new.loads c.loop.total c.augment.result so.0 one),
      record { tree = c.reopen.ensures.tree; levels = λ v. c.reopen.ensures.levels v ∙ so.1.levels v },
      c.reopen.auto.shut ∙ so.2,
    )
