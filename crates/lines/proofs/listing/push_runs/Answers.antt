use Rattle.std.proofs.Common.{◌<◌, ◌++◌, ◌∷◌, List, ℕ, length, map, take, string_bytes, vec_items, ap, sym, ◌∙◌, append_assoc, rules}
use Rattle.std.proofs.lemmas.List.{take_all}
use Rattle.run_sheet.specs.declared.leg.Leg.{Leg}
use Rattle.lines.specs.Lines.{run_line}
use Rattle.lines.specs.Listing.{followed}
use Rattle.lines.proofs.Followed.{runs_more}
use Rattle.lines.proofs.listing.push_runs.Goals as goal

pub loop-legs-preserved : goal.loop-legs-preserved
loop-legs-preserved c =
    let old = c.loop-legs.invariant in
    let i = c.loop-legs.legs-index in
    let within : i < length c.args.runs.now = search rules in
    let more = runs_more vec_items c.args.runs.now i c.legs-item.result within in
    c.in_ok-push_run.ensures
    ∙ ap (λ (l : List Leg). string_bytes c.loop-legs.out ++ (10 ∷ run_line l)) c.deref.ensures.value
    ∙ ap (λ (l : List ℕ). l ++ (10 ∷ run_line (vec_items c.legs-item.result))) old
    ∙ append_assoc (string_bytes c.args.out.now) _ (10 ∷ run_line (vec_items c.legs-item.result))
    ∙ ap (λ (l : List Leg). string_bytes c.args.out.now ++ (followed (map vec_items (take i c.args.runs.now)) ++ (10 ∷ run_line l))) (ap vec_items c.legs-item.is)
    ∙ ap (λ (l : List ℕ). string_bytes c.args.out.now ++ l) (sym more)

pub returns : goal.returns
returns c = c.loop-legs.invariant ∙ ap (λ runs. string_bytes c.args.out.now ++ followed (map vec_items runs)) (take_all c.loop-legs.legs-index c.args.runs.now c.loop-legs-test.false)
