use Rattle.std.proofs.Common.{refl, arith}
use Rattle.slips.proofs.Tables.{holds_most, restated}
use Rattle.slips.proofs.table.SlipTable.stand.Goals as goal

pub bounds-self-number : goal.bounds-self-number
bounds-self-number c = omega (arith, holds_most c.args.self.now)

pub returns : goal.returns
returns c = λ s e some. restated c.args.self.now _ c.args.number _ c.args.state s e some refl refl
