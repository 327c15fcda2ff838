use Rattle.std.proofs.Common.{ℕ, Ok, Option, Result, map, vec_items, refl, sym, ap, subst, ◌∙◌, arith}
use Rattle.std.proofs.lemmas.List.{length-take-le}
use Rattle.board.specs.States.{plan_on, state_of}
use Rattle.refusals.specs.declared.Refusal.{Refusal}
use Rattle.run_sheet.specs.Calls.{Takes}
use Rattle.run_sheet.specs.Sheets.{state_in, loads_in}
use Rattle.run_sheet.proofs.Split.{map_push, nothing_taken, one_taken, all_off}
use Rattle.run_sheet.proofs.splitting.all_runs.Goals as goal

pub loop-count-init : goal.loop-count-init
loop-count-init c =
    let b = c.args.board.now in
    nothing_taken (state_of b) (plan_on b) (state_in c.lay-sheet.result) c.deref_mut.result.now (loads_in c.lay-sheet.result) _ _ c.lay-sheet.ensures.board (omega (arith, c.deref_mut.ensures.len, c.in_ok-loads.ensures.len, c.load_count.ensures)) refl (ap (map vec_items) c.new-runs.ensures.items) c.lay-sheet.ensures.laid

pub slice_bounds-from_slice-end : goal.slice_bounds-from_slice-end
slice_bounds-from_slice-end c =
    let h = c.loop-count in
    let told = subst (λ (r : Result (Option ℕ) Refusal). Takes (state_in h.sheet) (loads_in h.sheet) (loads_in c.take_run.new.self) h.legs c.take_run.new.legs r) c.in-Some.ensures c.take_run.ensures.answer in
    sym (length-take-le c.in-Some.count c.take_run.new.legs (omega (arith, told.1.room, c.take_run.auto.legs)))

pub loop-count-preserved : goal.loop-count-preserved
loop-count-preserved c =
    let b = c.args.board.now in
    let h = c.loop-count in
    let told = subst (λ (r : Result (Option ℕ) Refusal). Takes (state_in h.sheet) (loads_in h.sheet) (loads_in c.take_run.new.self) h.legs c.take_run.new.legs r) c.in-Some.ensures c.take_run.ensures.answer in
    one_taken (state_of b) (plan_on b) (state_in h.sheet) (loads_in h.sheet) (map vec_items (vec_items h.runs)) h.legs h.invariant (state_in c.take_run.new.self) (loads_in c.take_run.new.self) c.take_run.new.legs c.in-Some.count _ c.take_run.ensures.board told.1 c.take_run.auto.legs
    (map_push vec_items (vec_items h.runs) (vec_items c.push.new.self) c.in_ok-from_slice.field-0 _ c.in_ok-push.ensures.items c.in_ok-from_slice.ensures.items)

pub returns : goal.returns
returns c =
    let b = c.args.board.now in
    let h = c.loop-count in
    let told = subst (λ (r : Result (Option ℕ) Refusal). Takes (state_in h.sheet) (loads_in h.sheet) (loads_in c.take_run.new.self) h.legs c.take_run.new.legs r) (c.unwrap.ensures ∙ ap Ok c.in_default.is) c.take_run.ensures.answer in
    all_off (state_of b) (plan_on b) (state_in h.sheet) (loads_in h.sheet) (map vec_items (vec_items h.runs)) h.legs h.invariant told.1
