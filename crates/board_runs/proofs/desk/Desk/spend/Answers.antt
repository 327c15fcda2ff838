use Rattle.std.proofs.Common.{◌<◌, List, vec_items, vec_len, refl, ap, ◌∙◌, rules}
use Rattle.std.specs.List.{insert}
use Rattle.std.proofs.lemmas.Option.{slice_get_read}
use Rattle.slips.specs.declared.slip.Slip.{Slip}
use Rattle.board.specs.States.{plan_on, state_of}
use Rattle.board_runs.proofs.Steps.{spend_stays}
use Rattle.board_runs.proofs.desk.Desk.spend.Goals as goal

pub returns-in-Err : goal.returns-in-Err
returns-in-Err c =
    let hand = vec_items c.args.self.now.hand in
    let b = c.args.self.now.board in
    let b' = c.spend.new.self in
    let within : c.args.place < vec_len c.args.self.now.hand = search rules in
    let at = slice_get_read hand _ c.args.place c.remove-slip.result c.args.self.now.hand.ok.0 within c.remove-slip.ensures.value in
    let put = (rw c.unwrap.ensures at c.insert.ensures.items) ∙ ap (λ (l : List Slip). insert l c.args.place c.in-Err.field-0.slip) c.remove-slip.ensures.items in
    record {
      step = spend_stays c.args.place c.args.act c.remove-slip.result c.in-Err.field-0 (state_of b) (state_of b') hand _ (plan_on b) (plan_on b')
          (record { feasible = b'.feasible; delivers = b'.delivers }) at c.in-Err.ensures.answer put (c.in-Err.ensures.refused refl);
      spare = search rules;
    }
