use Rattle.std.proofs.Common.{get_or, ap, ◌∙◌, arith}
use Rattle.flow.proofs.Pushing.{along_at, along_length}
use Rattle.search.specs.Ends.{end_of, spare_by}
use Rattle.search.specs.Layouts.{laid}
use Rattle.search.specs.Visits.{visit_of}
use Rattle.search.proofs.Ways.{entered, walk_more}
use Rattle.search.proofs.way.Ways.bottleneck.Goals as goal

pub bounds-loads-visit : goal.bounds-loads-visit
bounds-loads-visit c =
    let N = laid c.args.self.now.map in
    let in' = entered N c.args.self.now.visits.now c.args.self.now.tree c.loop-at.at c.loop-at-test.true in
    omega (arith, in'.numbered, along_length _ N.arcs c.args.loads.now c.requires.fits)

pub spare-requires : goal.spare-requires
spare-requires c =
    let N = laid c.args.self.now.map in
    let visits = c.args.self.now.visits.now in
    let in' = entered N visits c.args.self.now.tree c.loop-at.at c.loop-at-test.true in
    rw c.arc-arc.ensures (along_at _ N.arcs c.args.loads.now c.requires.fits (visit_of visits c.loop-at.at).arc in'.numbered)

pub loop-at-preserved : goal.loop-at-preserved
loop-at-preserved c =
    let N = laid c.args.self.now.map in
    let at = c.loop-at.at in
    let visits = c.args.self.now.visits.now in
    let visit = visit_of visits at in
    let spare = c.spare.ensures ∙ ap (λ a. spare_by visit.side a (get_or c.args.loads.now visit.arc 0)) c.arc-arc.ensures in
    walk_more N visits c.args.self.now.tree c.args.loads.now c.args.node at c.loop-at.amount c.min-amount.result c.of-at.result c.loop-at.invariant c.loop-at-test.true (c.of-at.ensures ∙ ap (end_of visit.side) c.arc-arc.ensures)
    (λ some room. omega (arith, c.min-amount.ensures, spare)) (omega (arith, c.min-amount.ensures)) (omega (arith, c.min-amount.ensures, spare))
