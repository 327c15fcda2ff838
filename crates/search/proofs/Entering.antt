-- The loops over the arcs at a node.
use Rattle.std.proofs.Common.{◌≡◌, ℕ, ◌+◌, ◌<◌, ◌≤◌, length, sym, ap, ◌∙◌, arith}
use Rattle.flow.specs.Network.{Network}
use Rattle.search.specs.Links.{key, LinkedBy, latest}
use Rattle.search.specs.declared.end.End.{End}
use Rattle.search.proofs.Latest.{latest_last}

-- the next arc to be looked at is at - 1, and has the node at that end
pub record Next (N : Network) (end : End) (node at : ℕ) : Type 0 where
  pub bound : at ≤ length N.arcs
  pub here : (e : ℕ) → at ≡ e + 1 → key end N.arcs e ≡ node

module _ (N : Network) (end : End) (node : ℕ) (first next : ℕ → ℕ) (linked : LinkedBy (key end N.arcs) N.nodes (length N.arcs) first next) where
  pub next_start : node < N.nodes → Next N end node (first node)
  next_start in' =
      let last = latest_last (key end N.arcs) node (length N.arcs) in
      let is = linked.0 node in' in
      record { bound = omega (arith, is, last.bound); here = λ e h. last.here e (sym is ∙ h) }

  pub next_on : (at e : ℕ) → Next N end node at → at ≡ e + 1 → Next N end node (next e)
  next_on at e so is =
      let in' : e < length N.arcs = omega (arith, so.bound) in
      let here : key end N.arcs e ≡ node = so.here e is in
      let next_is : next e ≡ latest (key end N.arcs) node e = linked.1 e in' ∙ ap (λ v. latest (key end N.arcs) v e) here in
      let last = latest_last (key end N.arcs) node e in
      record { bound = omega (arith, next_is, last.bound); here = λ k h. last.here k (sym next_is ∙ h) }
