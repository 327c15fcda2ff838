use Rattle.std.proofs.Common.{ℕ, List, sym, refl, subst}
use Rattle.roads.specs.Grids.{opened}
use Rattle.slips.specs.declared.table.Entry.{Entry}
use Rattle.board.specs.Planned.{plan_in}
use Rattle.board.proofs.Kept.{Kept, kept_same, kept_fresh}
use Rattle.board.proofs.board.Board.new.Goals as goal

pub invariant_of-result : goal.invariant_of-result
invariant_of-result c =
    let p : ℕ → ℕ → ℕ = plan_in c.in_ok-new-2.field-0 in
    kept_same (opened 1 0) _ _ p p c.in_ok-new.ensures refl (subst (λ (hs : List Entry). Kept (opened 1 0) hs p) (sym c.new-2.ensures) (kept_fresh 1 0 p))
