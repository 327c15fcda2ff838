use Rattle.std.proofs.Common.{◌<◌, ◌≤◌, List, length, vec_items, vec_len, ap, ◌∙◌, rules}
use Rattle.std.specs.List.{insert}
use Rattle.std.proofs.lemmas.Option.{slice_get_read}
use Rattle.slips.specs.declared.slip.Slip.{Slip}
use Rattle.slip_runs.specs.Rules.{Step}
use Rattle.slip_runs.proofs.Turns.{spend_step, refuse_step}
use Rattle.slip_runs.proofs.desk.Desk.give.Goals as goal

pub returns-then-place-len : goal.returns-then-place-len
returns-then-place-len c =
    let past : length (vec_items c.args.self.now.hand) ≤ c.args.place = search rules in
    record { step = Step.no_slip past; spare = search rules; places = search rules }

pub returns-in-Ok : goal.returns-in-Ok
returns-in-Ok c =
    let hand = vec_items c.args.self.now.hand in
    let within : c.args.place < vec_len c.args.self.now.hand = search rules in
    let at = slice_get_read hand _ c.args.place c.remove-slip.result c.args.self.now.hand.ok.0 within c.remove-slip.ensures.value in
    record {
      step = spend_step c.args.self.now.table _ hand c.args.place c.remove-slip.result at c.args.act _ _ _ _
          c.in-Ok.ensures.answer c.number.ensures c.depot.ensures c.pallets.ensures c.remove-slip.ensures.items;
      spare = search rules;
      places = search rules;
    }

pub returns-in-Err : goal.returns-in-Err
returns-in-Err c =
    let hand = vec_items c.args.self.now.hand in
    let within : c.args.place < vec_len c.args.self.now.hand = search rules in
    let at = slice_get_read hand _ c.args.place c.remove-slip.result c.args.self.now.hand.ok.0 within c.remove-slip.ensures.value in
    let put = (rw c.unwrap.ensures at c.insert.ensures.items) ∙ ap (λ (l : List Slip). insert l c.args.place c.in-Err.field-0.slip) c.remove-slip.ensures.items in
    record {
      step = refuse_step c.args.self.now.table _ hand c.args.place c.remove-slip.result at c.in-Err.field-0 _ put c.args.act
          c.in-Err.ensures.answer;
      spare = search rules;
      places = search rules;
    }
