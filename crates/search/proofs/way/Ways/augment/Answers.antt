use Rattle.std.proofs.Common.{arith}
use Rattle.search.specs.Layouts.{laid}
use Rattle.search.proofs.Gains.{gain_one}
use Rattle.search.proofs.Layouts.{laid_sound}
use Rattle.search.proofs.Turn.{level_within}
use Rattle.search.proofs.way.Ways.augment.Goals as goal

pub returns-then-amount-gt0 : goal.returns-then-amount-gt0
returns-then-amount-gt0 c =
    let m = c.args.self.now.map in
    let within = level_within c.args.self.now.visits.now c.args.node c.requires.reached in
    record {
      gained = λ k idle b. gain_one (laid m) c.args.loads.now c.push.new.loads c.bottleneck-amount.result c.args.node c.push.ensures (laid_sound m) k c.requires.flow idle (omega (arith, within, c.args.self.now.tree.sized)) b;
      none = λ e. absurd (omega arith);
    }
