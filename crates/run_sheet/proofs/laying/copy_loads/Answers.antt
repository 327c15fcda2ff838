use Rattle.std.proofs.Common.{◌≡◌, ℕ, suc, ◌+◌, ◌/◌, ◌%◌, slice_index, subst, arith}
use Rattle.board.specs.States.{plan_on, state_of}
use Rattle.planning.proofs.Places.{by_place}
use Rattle.run_sheet.specs.Lists.{departing}
use Rattle.run_sheet.proofs.laying.copy_loads.Goals as goal

pub returns : goal.returns
returns c l t lt le =
    let s = state_of c.args.board.now in
    let f = departing s (plan_on c.args.board.now) in
    let width : c.horizon.result + 1 ≡ suc s.grid.horizon = omega (arith, c.horizon.ensures) in
    by_place 96 (suc s.grid.horizon) f c.loop-place.loads (λ k low. subst (λ (n : ℕ). slice_index c.loop-place.loads k ≡ f (k / n) (k % n)) width (c.loop-place.invariant k (omega (arith, c.requires)))) l t lt (omega arith)
