use Rattle.std.proofs.Common.{subst, vec_items}
use Rattle.std.specs.Fmt.{DisplaysOnOk}
use Rattle.search_trial.proofs.Text.{sentence}
use Rattle.search_trial.proofs.trial.serving.TrialDisplay.fmt.Goals as goal

pub returns-in-Ok-clause-writes : goal.returns-in-Ok-clause-writes
returns-in-Ok-clause-writes g c =
    let t = c.args.self.now in
    let e = sentence c.in-Ok.field-0 (vec_items t.figures) (vec_items t.marks) in
    rw c.in-Ok.is (subst (λ o. DisplaysOnOk g.W.Write.write_str_gives c.args.f.now c.write.result o c.write.new.self) e c.write.ensures.writes)
