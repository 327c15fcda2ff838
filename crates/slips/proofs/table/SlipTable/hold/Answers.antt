use Rattle.std.proofs.Common.{ℕ, [], ◌∷◌, ◌++◌, sym, refl, ap, ◌∙◌, arith}
use Rattle.slips.specs.declared.moves.SlipState.TheVariants.{InHand}
use Rattle.slips.specs.declared.slip.Slip.{Slip}
use Rattle.slips.specs.Holds.{holds, entry_of}
use Rattle.slips.specs.Slips.{slip_of}
use Rattle.slips.proofs.Tables.{counted, pushed}
use Rattle.slips.proofs.table.SlipTable.hold.Goals as goal

pub returns-then-number-ge-CAPACITY : goal.returns-then-number-ge-CAPACITY
returns-then-number-ge-CAPACITY c = let n = counted c.args.self.now in (omega arith, refl, refl)

pub returns : goal.returns
returns c =
    let n = counted c.args.self.now in
    let made = c.new.ensures in (
      omega arith,
      made ∙ ap (λ (k : ℕ). slip_of k c.args.depot c.args.pallets) n,
      pushed c.args.self.now _ _ c.if-number-ge-CAPACITY.false refl refl
          ∙ ap (λ (s : Slip). holds c.args.self.now ++ entry_of s InHand ∷ []) (sym made),
    )
