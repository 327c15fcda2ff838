use Rattle.std.proofs.Common.{◌≡◌, string_bytes, take}
use Rattle.lines.proofs.Words.{run_words}
use Rattle.lines.proofs.text.run_line.Given as goal

abbrev pub invariant-loop-leg : goal.invariant-loop-leg
invariant-loop-leg l = string_bytes l.line ≡ run_words l.pallets (take l.leg-index l.legs)
