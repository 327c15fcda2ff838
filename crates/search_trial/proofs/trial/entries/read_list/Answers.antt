use Rattle.search_trial.specs.Numbers.{left}
use Rattle.search_trial.proofs.Entries.{entries_more, drop_more}
use Rattle.search_trial.proofs.trial.entries.read_list.Goals as goal

pub loop-i-preserved : goal.loop-i-preserved
loop-i-preserved g c =
    let ns = left c.args.numbers.now in
    let longer = entries_more g.E.FromNumbers.entry g.E.FromNumbers.width c.loop-i._i ns in
    let further = drop_more g.E.FromNumbers.width c.loop-i._i ns in
    record { items = cc (c.in_ok-push.ensures.items); rest = cc }
