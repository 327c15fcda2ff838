-- The network that a layout lays out.
use Rattle.std.specs.Prelude.{ℕ, List, length}
use Rattle.flow.specs.Network.{Network}
use Rattle.flow.specs.declared.Arc.{Arc}
use Rattle.search.specs.Entries.{rank_at}
use Rattle.search.specs.declared.entry.NodeEntry.{NodeEntry}
use Rattle.search.specs.declared.layout.Layout.{Layout}

-- the network of such arcs and entries
abbrev pub copy_of : ℕ → List Arc → List NodeEntry → Network
copy_of source arcs nodes = record { nodes = length nodes; source = source; arcs = arcs; rank = rank_at nodes }

abbrev pub laid : Layout → Network
laid m = copy_of m.source m.arcs.now m.nodes.now
