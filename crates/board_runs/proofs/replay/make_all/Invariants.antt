use Rattle.std.proofs.Common.{◌≡◌, ◌≤◌, ◌+◌, ◌++◌, map, length, vec_capacity, vec_len, vec_items}
use Rattle.std.specs.Vec.Iter.{into_iter_items, into_iter_len}
use Rattle.refusals.specs.Runs.{Ran}
use Rattle.board_runs.specs.Asks.{asked, told}
use Rattle.board_runs.specs.Steps.{Step, moment_of, spare_places}
use Rattle.board_runs.proofs.replay.make_all.Given as goal

abbrev pub invariant-loop-call : goal.invariant-loop-call
invariant-loop-call g l = record {
  whole : l.yielded ++ into_iter_items l.call-iterator ≡ vec_items l.fn.calls;
  left : length l.yielded + into_iter_len l.call-iterator ≡ vec_len l.fn.calls;
  answered : vec_len l.answers ≡ length l.yielded;
  room : vec_len l.fn.calls ≤ vec_capacity l.answers;
  spare : vec_len l.fn.calls ≤ length l.yielded + spare_places l.desk;
  ran : Ran Step (moment_of l.initial.desk) (map (asked g.R.Ranking.meaning) l.yielded) (map told (vec_items l.answers)) (moment_of l.desk);
}
