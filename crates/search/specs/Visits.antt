-- What the visits of a search say.
use Rattle.std.specs.Prelude.{◌≡◌, ℕ, ◌+◌, ◌<◌, ◌≤◌, Bool, ◌≢◌, ◌⊎◌, List, [], ◌∷◌, length, count_by, nat_lt, slice_index_or}
use Rattle.flow.specs.Network.{Network}
use Rattle.search.specs.Ends.{other}
use Rattle.search.specs.Links.{key}
use Rattle.search.specs.Residual.{Reach, Usable}
use Rattle.search.specs.declared.end.End.{End}
use Rattle.search.specs.declared.end.End.TheVariants.{Tail}
use Rattle.search.specs.declared.visit.Visit.{Visit}

abbrev pub unvisited : Visit
unvisited = record { level = 0; arc = 0; side = Tail }

abbrev pub visit_of : List Visit → ℕ → Visit
visit_of visits v = slice_index_or visits v unvisited

abbrev pub level : List Visit → ℕ → ℕ
level visits v = (slice_index_or visits v unvisited).level

abbrev pub reached : List Visit → ℕ → Bool
reached visits v = nat_lt 0 (level visits v)

-- the node that v was reached from
abbrev pub parent : Network → List Visit → ℕ → ℕ
parent N visits v = key (visit_of visits v).side N.arcs (visit_of visits v).arc

-- how a node other than the source was reached: along an arc that ends there, from a node one level below
pub record Entered (N : Network) (visits : List Visit) (v : ℕ) : Type 0 where
  pub numbered : (visit_of visits v).arc < length N.arcs
  pub ends : key (other (visit_of visits v).side) N.arcs (visit_of visits v).arc ≡ v
  pub starts : 0 < level visits (parent N visits v)
  pub rises : level visits v ≡ level visits (parent N visits v) + 1

-- there is a visit for each node, and the nodes reached form a tree from the source
pub record Tree (N : Network) (visits : List Visit) : Type 0 where
  pub sized : length visits ≡ N.nodes
  pub root : level visits N.source ≡ 1
  pub enters : (v : ℕ) → 0 < level visits v → v ≢ N.source → Entered N visits v

-- each node but the source was reached along an arc that may be crossed
abbrev pub Open : Network → List ℕ → List Visit → Type 0
Open N f visits = (v : ℕ) → 0 < level visits v → v ≢ N.source → Usable N f (visit_of visits v).side (visit_of visits v).arc

-- what a search finds: all that can be reached, and a tree of the ways to it
pub record Found (N : Network) (f : List ℕ) (visits : List Visit) : Type 0 where
  pub reach : Reach N f (reached visits)
  pub tree : Tree N visits
  pub opened : Open N f visits

-- another way to enter v on its level: along an arc that ends there, from a node one level below
pub record Enters (N : Network) (visits : List Visit) (v : ℕ) (m : Visit) : Type 0 where
  pub stays : m.level ≡ level visits v
  pub numbered : m.arc < length N.arcs
  pub ends : key (other m.side) N.arcs m.arc ≡ v
  pub starts : 0 < level visits (key m.side N.arcs m.arc)
  pub rises : level visits v ≡ level visits (key m.side N.arcs m.arc) + 1

-- the nodes reached are the same, on the same levels, and form a tree again
pub record Reentered (N : Network) (before after : List Visit) : Type 0 where
  pub tree : Tree N after
  pub levels : (v : ℕ) → level after v ≡ level before v

-- While it goes on:

abbrev pub In : ℕ → List ℕ → Type 0
In v [] = ⊥
In v (x ∷ xs) = (v ≡ x) ⊎ In v xs

-- every arc that may be crossed from v at that end goes to a node that is reached
abbrev pub Done : Network → List ℕ → List Visit → End → ℕ → Type 0
Done N f visits end v = (e : ℕ) → e < length N.arcs → key end N.arcs e ≡ v → Usable N f end e → 0 < level visits (key (other end) N.arcs e)

abbrev pub count : List Visit → ℕ
count visits = count_by (λ m. nat_lt 0 m.level) visits

-- a search under way: `pending` are the nodes reached whose arcs are not all looked at yet
pub record Searching (N : Network) (f : List ℕ) (visits : List Visit) (pending : List ℕ) : Type 0 where
  pub tree : Tree N visits
  pub opened : Open N f visits
  pub rest : (v : ℕ) → 0 < level visits v → In v pending ⊎ ((end : End) → Done N f visits end v)
  pub visited : (v : ℕ) → In v pending → 0 < level visits v
  pub low : (v : ℕ) → level visits v ≤ count visits
  pub few : length pending ≤ count visits

-- what was reached stays so
abbrev pub Keeps : List Visit → List Visit → Type 0
Keeps before after = (v : ℕ) → 0 < level before v → level after v ≡ level before v

-- as many nodes more are reached as there are more in the queue
abbrev pub Paced : List Visit → List Visit → List ℕ → List ℕ → Type 0
Paced before after queued waiting = count after + length queued ≡ count before + length waiting
