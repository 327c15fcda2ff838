use Rattle.std.proofs.Common.{rules, refl}
use Rattle.session.specs.Performing.{QuotesBy}
use Rattle.session.proofs.session.Session.quote.Goals as goal

pub returns-in-0 : goal.returns-in-0
unfolding QuotesBy
returns-in-0 c = rw c.in-0.is (_, c.quote_figures.ensures.right, refl, search rules)

pub returns-in-1 : goal.returns-in-1
unfolding QuotesBy
returns-in-1 c = rw c.in-1.is (_, c.quote_figures-in-1.ensures.right, refl, search rules)
