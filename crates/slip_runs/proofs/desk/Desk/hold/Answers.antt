use Rattle.std.proofs.Common.{vec_items, rules}
use Rattle.slip_runs.proofs.Turns.{hold_step, full_step}
use Rattle.slip_runs.proofs.desk.Desk.hold.Goals as goal

pub returns-in-Ok : goal.returns-in-Ok
returns-in-Ok c = record {
  step = hold_step c.args.self.now.table _ (vec_items c.args.self.now.hand) _ _ c.in-Ok.slip _ _ c.in-Ok.ensures c.number-number.ensures c.push_reserved.ensures.items;
  spare = search rules;
  places = search rules;
}

pub returns-in-Err : goal.returns-in-Err
returns-in-Err c = record {
  step = full_step c.args.self.now.table _ (vec_items c.args.self.now.hand) _ _ _ c.in-Err.ensures;
  spare = search rules;
  places = search rules;
}
