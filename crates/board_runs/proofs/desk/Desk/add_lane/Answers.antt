use Rattle.std.proofs.Common.{refl, vec_items, rules}
use Rattle.board.specs.States.{plan_on, state_of}
use Rattle.board_runs.specs.Asks as ask
use Rattle.board_runs.proofs.Steps.{stays}
use Rattle.board_runs.proofs.desk.Desk.add_lane.Goals as goal

pub returns-in-Err : goal.returns-in-Err
returns-in-Err c =
    let b = c.args.self.now.board in
    let b' = c.add_lane.new.self in
    record {
      step = stays (ask.add_lane c.args.lane c.args.capacity) (state_of b) (state_of b') (vec_items c.args.self.now.hand) _ (plan_on b) (plan_on b') (record { feasible = b'.feasible; delivers = b'.delivers })
          c.in-Err.why c.in-Err.ensures.answer.0 c.in-Err.ensures.answer.1 refl (c.in-Err.ensures.kept refl);
      spare = search rules;
    }
