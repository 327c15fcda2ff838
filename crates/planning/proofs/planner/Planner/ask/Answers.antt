use Rattle.std.proofs.Common.{◌≡◌, eqb, List, length, get_or, slice_index, sym, ◌∙◌, ap, subst, arith}
use Rattle.std.proofs.lemmas.Bool.{both_ways, eq-eqb, eqb-true}
use Rattle.std.proofs.lemmas.Grind.{get_or_default_zero}
use Rattle.std.proofs.lemmas.List.{get_or-take}
use Rattle.timetable.specs.Plans.{Servable}
use Rattle.timetable.specs.Quotes.{all_owed}
use Rattle.expanded.specs.Days.{ranks_of}
use Rattle.expanded.specs.Schedules.{timetable_of}
use Rattle.planning.proofs.Brought.{unservable}
use Rattle.planning.proofs.Networks.{owed_sum}
use Rattle.planning.proofs.planner.Planner.ask.Goals as goal
use Rattle.planning.proofs.planner.Planner.ask.Given.{Over}
use Rattle.planning.proofs.planner.Planner.ask.Goals.{After-sum_of}

first : (g : Over) (c : After-sum_of g) → c.index.result.now ≡ get_or c.serve.new.self.figures.items 0 0
first g c = c.index.ensures ∙ get_or_default_zero c.serve.new.self.figures.items 0 c.index.result.now (omega (arith, c.serve.new.self.figures_fit))

owed : (g : Over) (c : After-sum_of g) → c.sum_of.result ≡ all_owed (timetable_of c.args.day.now.schedule) (slice_index c.args.owed.now)
owed g c =
    let n = c.args.day.now in
    c.sum_of.ensures ∙ owed_sum (timetable_of n.schedule) c.args.owed.now (sym (ap length c.requires.owed) ∙ n.counted)

pub returns-clause-brought : goal.returns-clause-brought
returns-clause-brought g c e = sym (first g c) ∙ eqb-true c.index.result.now c.sum_of.result e ∙ owed g c

pub returns-clause-less : goal.returns-clause-less
returns-clause-less g c e =
    let n = c.args.day.now in
    let S = timetable_of n.schedule in
    let figures = c.serve.new.self.figures.items in
    let start = get_or-take c.args.ranks figures 0 0 c.requires.some in
    subst (λ (xs : List _). Servable S (slice_index xs) → ⊥) c.requires.owed
    (unservable S n.schedule.sound (slice_index n.owed.now) (ranks_of g.R.Ranking.meaning n) c.args.ranks _ _ _ c.serve.ensures c.requires.some
    (λ q. both_ways (eqb c.index.result.now c.sum_of.result) e
    (eq-eqb _ _ (first g c ∙ sym start ∙ q ∙ ap (λ xs. all_owed S (slice_index xs)) c.requires.owed ∙ sym (owed g c)))))
