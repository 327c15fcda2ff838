use Rattle.one_day.proofs.Answers.{one_answer}
use Rattle.one_day.proofs.Texts.{one_day}
use Rattle.one_day.proofs.one_day.Goals as goal

pub returns-clause-answer : goal.returns-clause-answer
returns-clause-answer c = one_answer

pub returns-clause-day : goal.returns-clause-day
returns-clause-day c = one_day
