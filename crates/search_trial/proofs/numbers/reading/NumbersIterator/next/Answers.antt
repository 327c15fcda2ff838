use Rattle.std.proofs.Common.{◌≡◌, ◌∷◌, rules, ap, sym, ◌∙◌}
use Rattle.search_trial.specs.Numbers.{left}
use Rattle.search_trial.proofs.Digits.{no_more, none_behind, one_more}
use Rattle.search_trial.proofs.numbers.reading.NumbersIterator.next.Goals as goal
use Rattle.search_trial.proofs.numbers.reading.NumbersIterator.next.Goals.{After-value}

pub returns-then-is_empty-clause-steps : goal.returns-then-is_empty-clause-steps
returns-then-is_empty-clause-steps c =
    let text = c.args.self.now.rest.now in
    let after = c.split_at.result.1.now in
    let digits = c.split_at-2.result.0.now in
    (no_more text after digits (cc) (cc) (search rules), none_behind text after digits (cc) (cc) c.split_at-2.result.1.now (cc) (search rules))

first : (c : After-value) → left c.args.self.now ≡ c.value.result ∷ left (record { rest = c.split_at-2.result.1 })
first c =
    one_more c.args.self.now.rest.now c.split_at.result.1.now c.split_at-2.result.0.now (cc) (cc) c.split_at-2.result.1.now (cc) (search rules)
    ∙ ap (λ n. n ∷ left (record { rest = c.split_at-2.result.1 })) (sym c.value.ensures)

pub returns-clause-steps : goal.returns-clause-steps
returns-clause-steps c = first c

pub returns-clause-goes : goal.returns-clause-goes
returns-clause-goes c = let e = first c in search rules
