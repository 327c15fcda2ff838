use Rattle.std.proofs.Common.{◌<◌, ◌++◌, length, codes, decimal, get_or, rules, sym, ap, ◌∙◌}
use Rattle.lines.proofs.Words.{figures_more}
use Rattle.lines.proofs.text.figures_line.Goals as goal

pub loop-figure-preserved : goal.loop-figure-preserved
loop-figure-preserved c =
    let within : c.loop-figure.figure-index < length c.args.figures.now = search rules in
    c.in_ok-write.ensures.bytes ∙ ap (λ l. l ++ (codes " " ++ decimal (get_or c.args.figures.now c.loop-figure.figure-index 0))) c.loop-figure.invariant
    ∙ sym (figures_more c.args.nth c.args.mark c.args.figures.now c.loop-figure.figure-index within)
