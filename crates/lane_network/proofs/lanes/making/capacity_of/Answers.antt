use Rattle.std.proofs.Common.{◌≡◌, ℕ, suc, ◌-◌, ap, take, ◌∙◌, arith}
use Rattle.lane_network.specs.Lanes.{smallest_of}
use Rattle.lane_network.proofs.Smallest.{departing_row}
use Rattle.lane_network.proofs.lanes.making.capacity_of.Goals as goal

pub returns : goal.returns
returns c =
    let row = c.args.capacities.now in
    let many : c.from.result ≡ suc c.args.horizon - c.args.transit = omega (arith, c.from.ensures, c.saturating_sub-departures.ensures) in
    rw (departing_row c.args.horizon c.args.transit row (omega arith)) (c.smallest.ensures ∙ ap (λ (n : ℕ). smallest_of (take n row)) many)
