-- A flow that serves one rank is a greatest flow to it, and its figure says how much it brings; and a standing rate is the only one.
use Rattle.std.proofs.Common.{◌≡◌, ℕ, ◌+◌, List, get_or, take, Ok, Result, arith}
use Rattle.std.proofs.lemmas.List.{get_or-take}
use Rattle.flow.specs.Network.{Network, granted, brought}
use Rattle.flow.specs.Checker.{Most}
use Rattle.flow.proofs.Ranks.{brought_none, brought_more}
use Rattle.search.specs.Answers.{Leaves}
use Rattle.search.specs.declared.error.SearchError.{SearchError}
use Rattle.search.specs.Served.{Served}
use Rattle.lane_network.specs.Lanes.{OneRate}

pub most_served : (N : Network) (loads marks figures : List ℕ) → Served N 1 loads marks (take 1 figures) → Most N 1 (get_or figures 0 0)
most_served N loads marks figures served =
    let brings : brought N 1 loads ≡ brought N 0 loads + granted N 0 loads = brought_more N 0 loads in
    let figure : get_or (take 1 figures) 0 0 ≡ granted N 0 loads = served.granted 0 (omega arith) in
    let all : brought N 1 loads ≡ get_or figures 0 0 = omega (arith, brings, brought_none N loads, figure, get_or-take 1 figures 0 0 (omega arith)) in
    record { loads = loads; flow = served.flow; brings = all; greatest = λ g flow. omega (arith, (served.cuts 1 (omega arith)).greatest g flow, all) }

-- where the search is made, the first figure is the most
pub most_left : (N : Network) (loads loads' marks marks' figures figures' : List ℕ) (r : Result Unit SearchError) (x : Unit {0}) → r ≡ Ok x → Leaves N 1 loads loads' marks marks' figures figures' r → Most N 1 (get_or figures' 0 0)
most_left N loads loads' marks marks' figures figures' r x e leaves = most_served N _ _ figures' (rw e at leaves).0

pub one_rate : OneRate
one_rate S m n a b = omega (arith, a.greatest b.loads b.flow, b.greatest a.loads a.flow, a.brings, b.brings)
