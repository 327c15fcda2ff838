-- What a stored network means, and what is wrong with lists that make none.
use Rattle.std.specs.Prelude.{◌≡◌, ℕ, not, List, length, Some, None, Ok, Err, vec_items, Option, Result, if◌then◌else◌, nat_le, nat_lt, slice_index_or}
use Rattle.std.specs.List.{list_all}
use Rattle.flow.specs.declared.Arc.{Arc}
use Rattle.flow.specs.Network.{Network, is_ranked}
use Rattle.network.specs.Limits.{joins, fits, low_rank, written}
use Rattle.network.specs.Proper.{Proper}
use Rattle.network.specs.declared.stored.StoredNetwork.{StoredNetwork}
use Rattle.network.specs.declared.stored.NetworkError.{NetworkError}
use Rattle.network.specs.declared.stored.NetworkError.TheVariants.{TooManyNodes, TooManyArcs, SourceIsNoNode, SourceHasRank, EndIsNoNode, CapacityTooLarge, RankTooHigh}
use Rattle.network.specs.Written.{written_proper}

abbrev pub stored_meaning : StoredNetwork → Network
stored_meaning n = written n.source (vec_items n.arcs) (vec_items n.ranks)

pub stored_proper : (n : StoredNetwork) → Proper (stored_meaning n)
stored_proper n = written_proper n.source (vec_items n.arcs) (vec_items n.ranks) (n.few_nodes, n.few_arcs, n.within, n.bare, n.ends, n.capacities, n.low)

-- the first thing that is wrong with the lists, if anything is
abbrev pub fault : ℕ → List Arc → List (Option ℕ) → Option NetworkError
fault source arcs ranks =
    if nat_lt 4096 (length ranks) then Some TooManyNodes
    else if nat_lt 32768 (length arcs) then Some TooManyArcs
    else if nat_le (length ranks) source then Some SourceIsNoNode
    else if is_ranked (slice_index_or ranks source None) then Some SourceHasRank
    else if not (list_all (joins (length ranks)) arcs) then Some EndIsNoNode
    else if not (list_all fits arcs) then Some CapacityTooLarge
    else if not (list_all low_rank ranks) then Some RankTooHigh
    else None

-- A network that means the lists is built where nothing is wrong with them, and else the first fault is told.
abbrev pub Builds : ℕ → List Arc → List (Option ℕ) → Result StoredNetwork NetworkError → Type 0
Builds source arcs ranks (Ok n) = (fault source arcs ranks ≡ None) × (stored_meaning n ≡ written source arcs ranks)
Builds source arcs ranks (Err e) = fault source arcs ranks ≡ Some e
