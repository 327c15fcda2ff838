use Rattle.std.proofs.Common.{◌≡◌, ℕ, ◌<◌, get_or}
use Rattle.search.specs.Entries.{no_links, no_node_entry}
use Rattle.search.specs.declared.entry.NodeEntry.{NodeEntry}
use Rattle.search.proofs.copying.copy_nodes.Given as goal

abbrev pub invariant-loop-v : goal.invariant-loop-v
invariant-loop-v g l =
    let made : ℕ → NodeEntry = λ v. record { rank = (g.N.Network.meaning l.net).rank v; first = no_links } in
    (k : ℕ) → k < l.v → get_or l.nodes k no_node_entry ≡ made k
