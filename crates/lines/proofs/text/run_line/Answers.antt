use Rattle.std.proofs.Common.{◌<◌, ◌++◌, ℕ, length, codes, get_or, rules, sym, ap, ◌∙◌}
use Rattle.std.proofs.lemmas.List.{take_all}
use Rattle.lines.specs.Lines.{leg_text}
use Rattle.lines.proofs.Words.{legs_more, no_leg, run_words}
use Rattle.lines.proofs.text.run_line.Goals as goal

pub loop-leg-preserved : goal.loop-leg-preserved
loop-leg-preserved c =
    let within : c.loop-leg.leg-index < length c.args.legs.now = search rules in
    c.in_ok-write.ensures.bytes ∙ ap (λ l. l ++ (codes " " ++ leg_text (get_or c.args.legs.now c.loop-leg.leg-index no_leg))) c.loop-leg.invariant
    ∙ sym (legs_more c.pallets_of-pallets.result c.args.legs.now c.loop-leg.leg-index within)

pub returns : goal.returns
returns c =
    c.loop-leg.invariant ∙ ap (λ legs. run_words c.pallets_of-pallets.result legs) (take_all c.loop-leg.leg-index c.args.legs.now c.loop-leg-test.false)
    ∙ ap (λ (n : ℕ). run_words n c.args.legs.now) c.pallets_of-pallets.ensures
