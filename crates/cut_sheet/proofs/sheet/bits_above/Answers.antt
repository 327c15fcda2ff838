use Rattle.std.proofs.Common.{ℕ, Bool, nat_lt, slice_index, refl, ◌∙◌, arith, add-one}
use Rattle.std.proofs.lemmas.Bool.{lt-ltb, le-ltb}
use Rattle.cut_sheet.specs.Bits.{bits_of}
use Rattle.cut_sheet.proofs.Masks.{one_set, one_left}
use Rattle.cut_sheet.proofs.sheet.bits_above.Goals as goal
use Rattle.cut_sheet.proofs.sheet.bits_above.Goals.{then-from-k, else-from-k}

pub loop-period-init : goal.loop-period-init
unfolding bits_of
loop-period-init c = refl

pub loop-period-preserved : goal.loop-period-preserved
loop-period-preserved c =
    let p : ℕ → Bool = λ t. nat_lt c.args.k (slice_index c.args.row.now t) in
    let at = c.loop-period.period in
    rw (add-one at) (elim c.if-from-k.branch [
      | then-from-k w ↦ w.bits-is ∙ rw c.loop-period.invariant (one_set p at (omega arith) (lt-ltb _ _ (omega (arith, w.if-from-k.true))))
      | else-from-k w ↦ w.bits-is ∙ c.loop-period.invariant ∙ one_left p at (le-ltb _ _ (omega (arith, w.if-from-k.false)))
    ])
