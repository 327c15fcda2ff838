use Rattle.std.proofs.Common.{◌≡◌, ℕ, suc, ◌+◌, ◌<◌, ◌≢◌, length, Some, None, sym, refl, ap, ◌∙◌, subst, arith}
use Rattle.ranking.specs.Ranking.{Ranking}
use Rattle.timetable.specs.Plans.{Timetable, Sound, depot}
use Rattle.day_network.specs.DayNetwork.{place_rank}
use Rattle.day_network.proofs.Brought.{by_depot, depot_ranked, yard_unranked}
use Rattle.expanded.specs.Schedules.{timetable_of}
use Rattle.expanded.proofs.day.DayNetwork.place_rank.Goals as goal

-- a yard that no depot is has no rank
unranked : (S : Timetable) → Sound S → (Q : Ranking) (y u : ℕ) → ((d : ℕ) → d < length S.depots → depot S d ≢ y) → place_rank S (Some Q) y u ≡ None
unranked S sound Q y u none =
    by_depot S sound (λ z. ((d : ℕ) → d < length S.depots → depot S d ≢ z) → place_rank S (Some Q) z u ≡ None)
    (λ d l n. absurd (n d l refl)) (λ z e n. yard_unranked S sound (Some Q) z u e) y none

pub returns-in_err-order : goal.returns-in_err-order
returns-in_err-order g c =
    let n = c.args.self.now in
    let S = timetable_of n.schedule in
    let Q = g.R.Ranking.meaning c.in_ok-ranking.ranking.now (length n.schedule.depots.now) n.schedule.horizon in
    rw (← c.in_ok-ranking.ensures.value) (c.from_residual-in_err-order.ensures ∙ sym (unranked S n.schedule.sound Q c.args.yard c.args.period c.in_err-order.ensures))

pub returns : goal.returns
returns g c =
    let n = c.args.self.now in
    let S = timetable_of n.schedule in
    let Q = g.R.Ranking.meaning c.in_ok-ranking.ranking.now (length n.schedule.depots.now) n.schedule.horizon in
    let found = c.in_ok-order.ensures in
    let ranked : place_rank S (Some Q) c.args.yard c.args.period ≡ Some (suc (Q.rank c.in_ok-order.order c.args.period)) =
    subst (λ (y : ℕ). place_rank S (Some Q) y c.args.period ≡ Some (suc (Q.rank c.in_ok-order.order c.args.period))) found.1 (depot_ranked S n.schedule.sound Q c.in_ok-order.order c.args.period found.0 c.if-period-self.false) in
    let same : c.rank.result + 1 ≡ suc (Q.rank c.in_ok-order.order c.args.period) = omega (arith, c.rank.ensures) in
    rw (← c.in_ok-ranking.ensures.value) (ap (λ (k : ℕ). Some k) same ∙ sym ranked)
