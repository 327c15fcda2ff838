use Rattle.std.proofs.Common.{arith}
use Rattle.board.specs.States.{plan_on, state_of}
use Rattle.run_sheet.proofs.Loads.{lays_long, lays_short, lays_kept}
use Rattle.run_sheet.proofs.sheet.RunSheet.lay.Goals as goal
use Rattle.run_sheet.proofs.sheet.RunSheet.lay.Goals.{then-count-loads, else-count-loads}

pub invariant_of-result : goal.invariant_of-result
invariant_of-result c =
    let b = c.args.board.now in
    let after = c.if-count-loads in
    record {
      kept = lays_kept (state_of b) b.roads.sound (plan_on b) c.args.loads.now after.loads b.feasible
          (elim after.branch [
            | then-count-loads w ↦ lays_long (state_of b) (plan_on b) c.args.loads.now after.loads after.auto.loads c.load_count-count.result w.copy_loads.new.loads c.load_count-count.ensures w.if-count-loads.true w.loads-is w.copy_loads.ensures
            | else-count-loads w ↦ lays_short (state_of b) (plan_on b) c.args.loads.now after.loads after.auto.loads (omega (arith, c.load_count-count.ensures, w.if-count-loads.false)) w.loads-is
          ]);
    }

pub returns-clause-laid : goal.returns-clause-laid
returns-clause-laid c =
    let b = c.args.board.now in
    let after = c.if-count-loads in
    elim after.branch [
      | then-count-loads w ↦ lays_long (state_of b) (plan_on b) c.args.loads.now after.loads after.auto.loads c.load_count-count.result w.copy_loads.new.loads c.load_count-count.ensures w.if-count-loads.true w.loads-is w.copy_loads.ensures
      | else-count-loads w ↦ lays_short (state_of b) (plan_on b) c.args.loads.now after.loads after.auto.loads (omega (arith, c.load_count-count.ensures, w.if-count-loads.false)) w.loads-is
    ]
