-- The limits of a network that is written out as a list of arcs and a list of ranks.
use Rattle.std.specs.Prelude.{◌≡◌, ℕ, ◌<◌, ◌≤◌, Bool, true, false, ◌&&◌, List, length, Some, None, Option, IsTrue, nat_le, nat_lt, slice_index_or}
use Rattle.std.specs.List.{list_all}
use Rattle.flow.specs.declared.Arc.{Arc}
use Rattle.flow.specs.Network.{Network, is_ranked}

-- both ends of the arc are nodes
abbrev pub joins : ℕ → Arc → Bool
joins nodes a = nat_lt a.tail nodes && nat_lt a.head nodes

-- the capacity is at most 46,075,392
abbrev pub fits : Arc → Bool
fits a = nat_le a.capacity 46075392

-- a rank that there is, is below 1,024
abbrev pub low_rank : Option ℕ → Bool
low_rank (Some r) = nat_lt r 1024
low_rank None = true

-- the network of a list of arcs, with a node for each rank
abbrev pub written : ℕ → List Arc → List (Option ℕ) → Network
written source arcs ranks = record { nodes = length ranks; source = source; arcs = arcs; rank = λ v. slice_index_or ranks v None }

-- The lists keep to the limits, so that they make a network.
abbrev pub Makes : ℕ → List Arc → List (Option ℕ) → Type 0
Makes source arcs ranks =
    (length ranks ≤ 4096) × (length arcs ≤ 32768) × (source < length ranks) × (is_ranked (slice_index_or ranks source None) ≡ false)
    × IsTrue (list_all (joins (length ranks)) arcs) × IsTrue (list_all fits arcs) × IsTrue (list_all low_rank ranks)
