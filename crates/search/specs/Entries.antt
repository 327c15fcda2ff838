-- What a search keeps of each node, and the links among nodes and arcs.
use Rattle.std.specs.Prelude.{ℕ, zero, suc, List, Some, None, Option, slice_index_or}
use Rattle.search.specs.declared.end.End.{End}
use Rattle.search.specs.declared.end.End.TheVariants.{Tail, Head}
use Rattle.search.specs.declared.entry.Links.{Links}
use Rattle.search.specs.declared.entry.NodeEntry.{NodeEntry}

-- the entry of what is no node
abbrev pub no_links : Links
no_links = record { out = 0; back = 0 }

abbrev pub no_node_entry : NodeEntry
no_node_entry = record { rank = None; first = no_links }

abbrev pub rank_at : List NodeEntry → ℕ → Option ℕ
rank_at entries v = (slice_index_or entries v no_node_entry).rank

-- the arc that a link leads to: a link is one more than its number, and 0 for none
abbrev pub linked : ℕ → Option ℕ
linked zero = None
linked (suc e) = Some e

-- the link by that end, and the links with another one there
abbrev pub link_at : End → Links → ℕ
link_at Tail x = x.out
link_at Head x = x.back

abbrev pub relinked : End → Links → ℕ → Links
relinked Tail x link = record { out = link; back = x.back }
relinked Head x link = record { out = x.out; back = link }

-- the links of an arc, which lie in two lists, and those of a node
abbrev pub links_at : List ℕ → List ℕ → ℕ → Links
links_at next_out next_in e = record { out = slice_index_or next_out e 0; back = slice_index_or next_in e 0 }

abbrev pub next_at : End → List ℕ → List ℕ → ℕ → ℕ
next_at end next_out next_in e = link_at end (links_at next_out next_in e)

abbrev pub first_at : End → List NodeEntry → ℕ → ℕ
first_at end entries v = link_at end (slice_index_or entries v no_node_entry).first
