use Rattle.std.proofs.Common.{vec_items, rules}
use Rattle.slip_runs.proofs.Turns.{pick_step, unpinned_step}
use Rattle.slip_runs.proofs.desk.Desk.pick_up.Goals as goal

pub returns-in-Ok : goal.returns-in-Ok
returns-in-Ok c = record {
  step = pick_step c.args.self.now.table _ (vec_items c.args.self.now.hand) c.args.number c.in-Ok.slip _ c.in-Ok.ensures c.push_reserved.ensures.items;
  spare = search rules;
  places = search rules;
}

pub returns-in-Err : goal.returns-in-Err
returns-in-Err c = record {
  step = unpinned_step c.args.self.now.table _ (vec_items c.args.self.now.hand) c.args.number c.in-Err.why c.in-Err.ensures;
  spare = search rules;
  places = search rules;
}
