use Rattle.std.proofs.Common.{◌∙◌, inl, inr, arith}
use Rattle.std.proofs.lemmas.Bool.{ltb-true}
use Rattle.flow.proofs.Pushing.{along_length}
use Rattle.search.specs.Layouts.{laid}
use Rattle.search.specs.Visits.{reached, level}
use Rattle.search.proofs.Layouts.{laid_sound}
use Rattle.search.proofs.Turn.{level_within}
use Rattle.search.proofs.Phases.{standing_on, note}
use Rattle.search.proofs.serving.serve_ranks.Goals as goal
use Rattle.search.proofs.serving.serve_ranks.Goals.{then-k-gt0, else-k-gt0}

pub invariant_of-explore : goal.invariant_of-explore
invariant_of-explore c = record { loaded = along_length _ (laid c.args.map).arcs c.args.loads.now c.requires.start.flow.fits }

pub loop-k-preserved : goal.loop-k-preserved
loop-k-preserved c =
    let visits = c.saturate-gained.new.visits in
    let after = c.saturate-gained.ensures in (
      standing_on (laid c.args.map) (laid_sound c.args.map) c.loop-k.k c.saturate-gained.result c.loop-k.loads c.saturate-gained.new.loads c.loop-k.marks c.stamp.new.marks c.loop-k.figures c.if-k-gt0.figures (reached visits)
          c.loop-k.invariant.0 after.gained after.cut after.smallest
          (λ v e. omega (arith, level_within visits v (ltb-true 0 (level visits v) e), after.found.tree.sized))
          c.stamp.ensures
          (note c.loop-k.figures c.if-k-gt0.figures c.loop-k.k c.saturate-gained.result (omega arith)
          (elim c.if-k-gt0.branch [ then-k-gt0 w ↦ inl (w.if-k-gt0.true, w.figures-is) | else-k-gt0 w ↦ inr (w.if-k-gt0.false, w.figures-is) ])),
      after.found,
      c.saturate-gained.auto.slots ∙ c.loop-k.invariant.2,
    )
