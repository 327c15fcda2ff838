use Rattle.timetable.proofs.Live.{test_says_live, only_live_loaded}
use Rattle.timetable.proofs.live_places.Goals as goal

pub returns : goal.returns
returns c = record { test = test_says_live; loaded = only_live_loaded }
