use Rattle.std.proofs.Common.{◌+◌, None, refl, inr, ⊎_elim, arith}
use Rattle.refusals.specs.Refusals.{Decides}
use Rattle.cut_sheet.specs.Sheets.{sheet_rules}
use Rattle.cut_sheet.proofs.Rows.{told}
use Rattle.cut_sheet.proofs.sheet.periods_inside.Goals as goal

pub returns : goal.returns
returns c =
    let decided : Decides (sheet_rules c.args.horizon c.args.marks.now c.args.yard) None =
    inr (⊎_elim (λ l. omega arith) (λ l. omega arith), inr (λ l. omega arith, inr (λ l. omega arith, refl))) in (
      decided,
      told c.args.horizon c.args.yard c.args.k c.args.marks.now (omega arith) (omega arith) (omega arith) c.bits_above-bits.result c.min.result
          (c.args.horizon + 1) (c.from.result + 1) (omega arith) c.bits_above-bits.ensures (omega (arith, c.from.ensures)) c.min.ensures,
    )
