use Rattle.std.proofs.Common.{vec_len}
use Rattle.slips_tests.proofs.tests.close.Given as goal

abbrev pub decreases-loop-slip : goal.decreases-loop-slip
decreases-loop-slip l = vec_len l.hand
