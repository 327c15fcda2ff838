use Rattle.std.proofs.Common.{rules}
use Rattle.session.proofs.Fronts.{right_front}
use Rattle.session.proofs.asking.quote_figures.Goals as goal

pub returns-clause-right : goal.returns-clause-right
returns-clause-right g c =
    let quoted = rw c.unwrap.ensures at c.quote.ensures.answer in
    record { each = search rules; marks = c.quote.new.marks; right = right_front _ _ _ _ _ quoted.1 c.rank_count-count.result (search rules) }
