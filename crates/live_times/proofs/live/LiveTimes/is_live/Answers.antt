use Rattle.std.proofs.Common.{◌∙◌}
use Rattle.live_times.proofs.Told.{told_live}
use Rattle.live_times.proofs.live.LiveTimes.is_live.Goals as goal

pub returns : goal.returns
returns c = λ S told.
    c.is_between.ensures ∙ told_live S _ told _ _ _ _ c.time_at-first.ensures.at c.time_at-first.ensures.past c.time_at-last.ensures.at
