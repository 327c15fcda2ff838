use Rattle.std.proofs.Common.{◌≡◌, ◌*◌, drop, vec_items}
use Rattle.search_trial.specs.Entries.{entries}
use Rattle.search_trial.specs.Numbers.{left}
use Rattle.search_trial.proofs.trial.entries.read_list.Given as goal

abbrev pub invariant-loop-i : goal.invariant-loop-i
invariant-loop-i g l = record {
  items : vec_items l.list ≡ entries g.E.FromNumbers.entry g.E.FromNumbers.width l._i (left l.fn.numbers);
  rest : left l.numbers ≡ drop (g.E.FromNumbers.width * l._i) (left l.fn.numbers);
}
