use Rattle.std.proofs.Common.{◌+◌, ◌∙◌, arith}
use Rattle.search.specs.Layouts.{laid}
use Rattle.search.proofs.Gains.{gain_on, gain_bound}
use Rattle.search.proofs.Layouts.{laid_sound, source_width}
use Rattle.search.proofs.way.press.drain_again.Goals as goal
use Rattle.search.proofs.way.press.drain_again.Goals.{then-visits-node-gt0+then-is_below, else-visits-node-gt0}

pub overflow_add-total : goal.overflow_add-total
overflow_add-total c =
    let N = laid c.args.map in
    let all = gain_on N c.args.k c.args.loads.now c.loop-node.loads c.press-total.new.loads c.loop-node.total c.press-total.result c.loop-node.invariant.0 c.press-total.ensures.gained in
    omega (arith, gain_bound N (laid_sound c.args.map) c.args.k c.args.loads.now c.press-total.new.loads (c.loop-node.total + c.press-total.result) all, source_width c.args.map)

pub loop-node-preserved : goal.loop-node-preserved
loop-node-preserved c =
    let N = laid c.args.map in
    let so = c.loop-node.invariant in
    elim c.if-visits-node-gt0.branch [
      | then-visits-node-gt0+then-is_below w ↦
          let more = w.press-total in
          rw (w.loads-is, w.visits-is, w.shut-is, w.total-is)
          (gain_on N c.args.k c.args.loads.now c.loop-node.loads more.new.loads c.loop-node.total more.result so.0 more.ensures.gained, more.ensures.again.tree, more.auto.shut ∙ so.2)
      | else-visits-node-gt0 w ↦ rw (w.loads-is, w.visits-is, w.shut-is, w.total-is) so
    ]
