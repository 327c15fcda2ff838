use Rattle.std.proofs.Common.{◌≡◌, string_bytes, take}
use Rattle.session.specs.Replies.{figures as figures_told}
use Rattle.lines.specs.Lines.{reply_line}
use Rattle.lines.proofs.text.figures_line.Given as goal

abbrev pub invariant-loop-figure : goal.invariant-loop-figure
invariant-loop-figure l = string_bytes l.line ≡ reply_line l.fn.nth l.fn.mark (figures_told (take l.figure-index l.figures))
