use Rattle.std.proofs.Common.{refl, ap, ◌∙◌, arith}
use Rattle.flow.proofs.Pushing.{along_at, along_length}
use Rattle.search.specs.Ends.{end_of}
use Rattle.search.specs.Layouts.{laid}
use Rattle.search.specs.Visits.{visit_of}
use Rattle.search.proofs.Ways.{entered, push_room, push_more, push_end}
use Rattle.search.proofs.way.Ways.push.Goals as goal

pub bounds-loads-visit : goal.bounds-loads-visit
bounds-loads-visit c =
    let N = laid c.args.self.now.map in
    let in' = entered N c.args.self.now.visits.now c.args.self.now.tree c.loop-at.at c.loop-at-test.true in
    omega (arith, in'.numbered, along_length _ N.arcs c.loop-at.loads c.loop-at.invariant.fits)

pub raised-requires : goal.raised-requires
raised-requires c =
    let N = laid c.args.self.now.map in
    let visits = c.args.self.now.visits.now in
    let at = c.loop-at.at in
    let in' = entered N visits c.args.self.now.tree at c.loop-at-test.true in
    let room = push_room N c.args.loads.now visits c.args.self.now.tree c.loop-at.loads c.args.node at c.args.amount c.loop-at.invariant c.loop-at-test.true in
    rw c.arc-arc.ensures (record { fits = along_at _ N.arcs c.loop-at.loads c.loop-at.invariant.fits (visit_of visits at).arc in'.numbered; room = room.0 })

pub loop-at-preserved : goal.loop-at-preserved
loop-at-preserved c =
    let visits = c.args.self.now.visits.now in
    push_more (laid c.args.self.now.map) c.args.loads.now visits c.args.self.now.tree c.loop-at.loads _ c.args.node c.loop-at.at c.args.amount c.of-at.result c.raised.result
    c.requires.some c.loop-at.invariant c.loop-at-test.true (c.of-at.ensures ∙ ap (end_of (visit_of visits c.loop-at.at).side) c.arc-arc.ensures) c.raised.ensures refl

pub returns : goal.returns
returns c =
    push_end (laid c.args.self.now.map) c.args.loads.now c.args.self.now.visits.now c.args.self.now.tree c.loop-at.loads c.args.node c.loop-at.at c.args.amount
    c.requires.some c.requires.reached c.requires.ample c.loop-at.invariant c.loop-at-test.false
