use Rattle.std.proofs.Common.{◌≡◌, ℕ, ◌+◌, ◌<◌, length, get_or}
use Rattle.slips.specs.Holds.{holds}
use Rattle.slips.specs.Owed.{owed_at, count_at}
use Rattle.board.proofs.owing.owed_with.Given as goal

abbrev pub invariant-loop-order : goal.invariant-loop-order
invariant-loop-order l = record {
  long : length l.owed ≡ 16;
  listed : (i : ℕ) → i < l.order → get_or l.owed i 0 ≡ owed_at (get_or l.depot-items i 0) (holds l.slips) + count_at (get_or l.depot-items i 0) l.yard l.pallets;
}
