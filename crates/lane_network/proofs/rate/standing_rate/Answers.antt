use Rattle.std.proofs.Common.{[], ◌∷◌, get_or, subst}
use Rattle.flow.specs.Network.{Network}
use Rattle.flow.specs.Checker.{Most}
use Rattle.lane_network.specs.Kept.{kept}
use Rattle.lane_network.proofs.Rates.{most_left}
use Rattle.lane_network.proofs.rate.standing_rate.Goals as goal

pub returns : goal.returns
returns c =
    let answer = c.serve.ensures.answer.1 in
    subst (λ (N : Network). Most N 1 (get_or c.serve.new.figures 0 0)) c.new-network.ensures
    (most_left (kept c.new-network.result) _ _ _ _ (0 ∷ []) c.serve.new.figures c.serve.result c.unwrap.result c.unwrap.ensures answer)
