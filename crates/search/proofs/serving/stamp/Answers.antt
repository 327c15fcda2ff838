use Rattle.std.proofs.Common.{◌∙◌, inl, inr, arith}
use Rattle.std.proofs.lemmas.List.{set-get_or}
use Rattle.std.proofs.lemmas.Bool.{lt-ltb, le-ltb}
use Rattle.search.specs.Visits.{level, reached}
use Rattle.search.proofs.Stamping.{stamp_turn}
use Rattle.search.proofs.serving.stamp.Goals as goal
use Rattle.search.proofs.serving.stamp.Goals.{then-visits-v-gt0, else-visits-v-gt0}

pub loop-v-preserved : goal.loop-v-preserved
loop-v-preserved c =
    let at = level c.args.visits.now c.loop-v.v in
    stamp_turn (reached c.args.visits.now) c.args.mark c.args.marks.now c.loop-v.marks c.loop-v.v c.loop-v.invariant c.if-visits-v-gt0.marks (omega arith)
    (elim c.if-visits-v-gt0.branch [ then-visits-v-gt0 w ↦ inl (lt-ltb 0 at w.if-visits-v-gt0.true, w.marks-is) | else-visits-v-gt0 w ↦ inr (le-ltb 0 at w.if-visits-v-gt0.false, w.marks-is ∙ set-get_or c.loop-v.marks c.loop-v.v 0) ])
