-- What every network of the interface keeps to.
use Rattle.std.specs.Prelude.{◌≡◌, ℕ, ◌<◌, ◌≤◌, true, List, length, None, slice_index_or}
use Rattle.flow.specs.declared.Arc.{Arc}
use Rattle.flow.specs.Network.{Network, Sound}
use Rattle.flow.specs.Pushing.{no_arc}
use Rattle.network.specs.Limits.{low_rank}

-- both ends of each arc are nodes, and no capacity is above 46,075,392
abbrev pub ArcsProper : ℕ → List Arc → Type 0
ArcsProper nodes arcs =
    (e : ℕ) → e < length arcs → ((slice_index_or arcs e no_arc).tail < nodes) × ((slice_index_or arcs e no_arc).head < nodes) × ((slice_index_or arcs e no_arc).capacity ≤ 46075392)

-- The network is sound; it has at most 4,096 nodes and 32,768 arcs; and every rank is below 1,024. What is no node has no rank.
pub record Proper (N : Network) : Type 0 where
  pub sound : Sound N
  pub few_nodes : N.nodes ≤ 4096
  pub few_arcs : length N.arcs ≤ 32768
  pub arcs : ArcsProper N.nodes N.arcs
  pub low : (v : ℕ) → v < N.nodes → low_rank (N.rank v) ≡ true
  pub past : (v : ℕ) → N.nodes ≤ v → N.rank v ≡ None
