use Rattle.std.proofs.Common.{◌+◌, arith}
use Rattle.search.specs.Layouts.{laid}
use Rattle.search.proofs.Gains.{drain_turn, gain_on, gain_bound}
use Rattle.search.proofs.Layouts.{laid_sound, source_width}
use Rattle.search.proofs.way.Ways.drain.Goals as goal

pub overflow_add-total : goal.overflow_add-total
overflow_add-total c =
    let m = c.args.self.now.map in
    let N = laid m in
    let all = gain_on N c.args.k c.args.loads.now c.loop-node.loads c.feed.new.loads c.loop-node.total c.feed.result c.loop-node.invariant.gained c.feed.ensures.gained in
    omega (arith, gain_bound N (laid_sound m) c.args.k c.args.loads.now c.feed.new.loads (c.loop-node.total + c.feed.result) all, source_width m)

pub loop-node-preserved : goal.loop-node-preserved
loop-node-preserved c =
    rw c.from-total.ensures
    (drain_turn (laid c.args.self.now.map) c.args.k c.args.loads.now c.loop-node.loads c.feed.new.loads c.args.self.now.visits.now c.loop-node.total c.feed.result c.loop-node.node
    c.loop-node.invariant c.feed.ensures.gained c.feed.ensures.none)
