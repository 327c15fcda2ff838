use Rattle.std.proofs.Common.{◌≡◌, ◌+◌, ◌≤◌, length, take, vec_items, vec_len, vec_capacity}
use Rattle.refusals.specs.Runs.{Ran}
use Rattle.slip_runs.specs.Rules.{Step, spare_places, world_at}
use Rattle.slip_runs.proofs.replay.replay.Given as goal

abbrev pub invariant-loop-request : goal.invariant-loop-request
invariant-loop-request l = record {
  spare : length l.requests ≤ l.request-index + spare_places l.desk;
  answered : vec_len l.answers ≡ l.request-index;
  room : length l.requests ≤ vec_capacity l.answers;
  ran : Ran Step (world_at l.initial.desk) (take l.request-index l.requests) (vec_items l.answers) (world_at l.desk);
}
