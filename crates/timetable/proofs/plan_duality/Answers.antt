use Rattle.timetable.proofs.Duality.{plan_duality_lem, tight_settled, settled_tight}
use Rattle.timetable.proofs.plan_duality.Goals as goal

pub returns : goal.returns
returns c = record { bound = plan_duality_lem; tight = tight_settled; settled = settled_tight }
