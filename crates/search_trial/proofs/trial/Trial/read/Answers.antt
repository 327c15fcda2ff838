use Rattle.std.proofs.Common.{◌≡◌, ◌*◌, vec_items, arith}
use Rattle.std.proofs.lemmas.List.{drop-drop}
use Rattle.network.specs.Stored.{stored_meaning}
use Rattle.search_trial.specs.Numbers.{left}
use Rattle.search_trial.proofs.Entries.{short_at}
use Rattle.search_trial.proofs.Taken.{Taken, made, refused}
use Rattle.search_trial.proofs.trial.Trial.read.Goals as goal
use Rattle.search_trial.proofs.trial.Trial.read.Goals.{In_ok-arcs}

-- all that the numbers give
all : (c : In_ok-arcs) → Taken c.args.nodes (left c.args.numbers.now) c.from_numbers-source.result c.from_numbers-ranks.result (vec_items c.in_ok-node_ranks.node_ranks) (vec_items c.in_ok-arcs.arcs) (left c.read_list-2.new.numbers)
all c =
    let ns = left c.args.numbers.now in
    let one = short_at ns 1 in
    let two = short_at ns 2 in
    let second = drop-drop 1 1 ns in
    let third = drop-drop 1 2 ns in
    let nodes : 1 * c.args.nodes ≡ c.args.nodes = omega arith in
    record { source_is = cc; asked_is = cc; ranks_are = cc (c.in_ok-node_ranks.ensures.items); arcs_are = cc (c.in_ok-node_ranks.ensures.rest, c.in_ok-arcs.ensures.items); rest_is = cc (c.in_ok-node_ranks.ensures.rest, c.in_ok-arcs.ensures.rest) }

pub returns-in_err-net : goal.returns-in_err-net
returns-in_err-net c =
    refused c.args.nodes c.from_numbers-source.result c.from_numbers-ranks.result (left c.args.numbers.now) _ _ _ (all (goal.at.returns-in_err-net c).In_ok-arcs) _ c.from_residual-in_err-net.result c.in_err-net.ensures
    c.from_residual-in_err-net.ensures.1

pub returns : goal.returns
returns c =
    made c.args.nodes c.from_numbers-source.result c.from_numbers-ranks.result (left c.args.numbers.now) _ _ _ (all (goal.at.returns c).In_ok-arcs) (stored_meaning c.in_ok-net.net) c.in_ok-new.field-0 c.in_ok-net.ensures.0 c.in_ok-net.ensures.1
    c.in_ok-new.ensures
