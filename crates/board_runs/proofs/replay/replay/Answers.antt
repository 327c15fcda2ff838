use Rattle.std.proofs.Common.{map, vec_items}
use Rattle.board_runs.specs.Asks.{asked, told}
use Rattle.board_runs.proofs.Kept.{kept}
use Rattle.board_runs.proofs.replay.replay.Goals as goal

pub returns : goal.returns
returns g c =
    let b = c.in-Ok-opened.board in
    let opened = c.in-Ok-opened.ensures in (
      opened.0,
      kept c.args.horizon c.args.origin (vec_items c.args.hand) (map (asked g.R.Ranking.meaning) (vec_items c.args.calls)) (map told (vec_items c.make_all.new.answers)) _ _ c.make_all.ensures
          (λ i. record { board = opened.1 i; hand = c.reserve.ensures.items i }) (record { feasible = b.feasible; delivers = b.delivers }),
    )
