use Rattle.std.proofs.Common.{ap, ◌∙◌, ◌++◌, subst}
use Rattle.dayfile.specs.Records.{mark_of_record, view}
use Rattle.dayfile.specs.declared.fault.Position.{Position}
use Rattle.session.specs.Days.{day_of}
use Rattle.session.specs.Performing.{Performs}
use Rattle.session.specs.Replies.{told as outcome_of}
use Rattle.lines.specs.Lines.{record_line}
use Rattle.lines.specs.Listing.{followed}
use Rattle.lines.proofs.listing.next_line.Goals as goal

pub returns : goal.returns
returns c =
    let (runs, told, text) = c.in_ok-turn_text.ensures in
    let here = c.position-position.ensures in
    let answer = outcome_of c.perform-outcome.result in (
      c.in-Some.entry,
      (answer, runs),
      rw c.in-Some.is at c.in_ok-entry.ensures,
      (subst (λ (at : Position). Performs (day_of c.args.session.now) (view c.in-Some.entry) at answer (day_of c.perform-outcome.new.self)) here c.perform-outcome.ensures, told),
      text ∙ ap (λ (at : Position). record_line at.nth (mark_of_record (view c.in-Some.entry)) answer ++ followed runs) here,
    )
