-- The loop over the arcs at a node.
use Rattle.std.proofs.Common.{◌≡◌, ℕ, ◌+◌, ◌<◌, ◌≤◌, cond, eqb, ltb, List, [], ◌∷◌, ◌++◌, length, set, sym, refl, ap, ◌∙◌, inr, ⊎_elim, arith}
use Rattle.std.proofs.lemmas.List.{length_push, get_or_past}
use Rattle.std.proofs.lemmas.List.Sums.{count_by-le-length}
use Rattle.std.proofs.lemmas.Bool.{cases_eq, cases_lt, cases_order, eq-eqb, ne_eqb, cond-true, cond-false}
use Rattle.flow.specs.declared.Arc.{Arc}
use Rattle.flow.specs.Network.{Network}
use Rattle.network.specs.Proper.{ArcsProper}
use Rattle.search.proofs.Latest.{latest_last}
use Rattle.search.proofs.Steps.{reach_step, reach_keeps, reach_count, in_last}
use Rattle.search.specs.Links.{key, LinkedBy, latest}
use Rattle.search.specs.Ends.{other}
use Rattle.search.specs.Residual.{Usable}
use Rattle.search.specs.Visits.{unvisited, level, count, Done, Searching, Keeps, Paced}
use Rattle.search.specs.declared.end.End.{End}
use Rattle.search.specs.declared.end.End.TheVariants.{Tail, Head}
use Rattle.search.specs.declared.visit.Visit.{Visit}

-- the arcs at the node from the one numbered at on are looked at, and the next is at - 1
pub record Scanned (N : Network) (load : List ℕ) (end : End) (start visits : List Visit) (node : ℕ) (queued waiting : List ℕ) (at : ℕ) : Type 0 where
  pub so : Searching N load visits (node ∷ waiting)
  pub keeps : Keeps start visits
  pub paced : Paced start visits queued waiting
  pub bound : at ≤ length N.arcs
  pub here : (e : ℕ) → at ≡ e + 1 → key end N.arcs e ≡ node
  pub over : (e : ℕ) → e < length N.arcs → at ≤ e → key end N.arcs e ≡ node → Usable N load end e → 0 < level visits (key (other end) N.arcs e)

-- both ends of an arc are nodes
pub key_within : (end : End) (nodes : ℕ) (arcs : List Arc) (e : ℕ) → ArcsProper nodes arcs → e < length arcs → key end arcs e < nodes
key_within Tail nodes arcs e s l = (s e l).0
key_within Head nodes arcs e s l = (s e l).1

module _ (N : Network) (load : List ℕ) where
  pub level_low : (visits : List Visit) (pending : List ℕ) → Searching N load visits pending → (v : ℕ) → level visits v ≤ N.nodes
  level_low visits pending so v = omega (arith, so.low v, so.tree.sized, count_by-le-length (λ m. ltb 0 m.level) visits)

  pub room_left : (visits : List Visit) (node : ℕ) (waiting : List ℕ) → Searching N load visits (node ∷ waiting) → length waiting < N.nodes
  room_left visits node waiting so = omega (arith, so.few, so.tree.sized, count_by-le-length (λ m. ltb 0 m.level) visits)

  -- what `reach` leaves
  pub reach_either : (visits visits' : List Visit) (waiting waiting' : List ℕ) (u v e : ℕ) (end : End) (m : Visit) → Searching N load visits (u ∷ waiting)
      → e < length N.arcs → key end N.arcs e ≡ u → Usable N load end e → v ≡ key (other end) N.arcs e → v < length visits → m ≡ record { level = level visits u + 1; arc = e; side = end }
      → visits' ≡ cond (eqb (level visits v) 0) (set visits v m) visits → waiting' ≡ cond (eqb (level visits v) 0) (waiting ++ (v ∷ [])) waiting
      → Searching N load visits' (u ∷ waiting') × Keeps visits visits' × (0 < level visits' (key (other end) N.arcs e)) × Paced visits visits' waiting waiting'
  reach_either visits visits' waiting waiting' u v e end m so in' from us to within made is-visits is-waiting =
      ⊎_elim
      (λ z.
      let t = eq-eqb (level visits v) 0 z in
      let new : visits' ≡ set visits v (record { level = level visits u + 1; arc = e; side = end }) = is-visits ∙ cond-true (eqb (level visits v) 0) (set visits v m) visits t ∙ ap (set visits v) made in
      let queued : waiting' ≡ waiting ++ (v ∷ []) = is-waiting ∙ cond-true (eqb (level visits v) 0) (waiting ++ (v ∷ [])) waiting t in
      let step = reach_step N load visits waiting u v e end so in' from us (sym to) within z in
      let keeps = reach_keeps N load visits waiting u v e end so in' from us (sym to) within z in
      let there = step.visited v (inr (in_last v v waiting refl)) in
      (rw (new, queued) step, rw new keeps, rw (new, ← to) there, omega (arith, ap count new, ap length queued, reach_count N load visits waiting u v e end so in' from us (sym to) within z, length_push waiting v)))
      (λ d.
      let t = ne_eqb (level visits v) 0 d in
      let new : visits' ≡ visits = is-visits ∙ cond-false (eqb (level visits v) 0) (set visits v m) visits t in
      let queued : waiting' ≡ waiting = is-waiting ∙ cond-false (eqb (level visits v) 0) (waiting ++ (v ∷ [])) waiting t in
      let there : 0 < level visits v = omega arith in
      (rw (new, queued) so, λ w l. ap (λ ms. level ms w) new, rw (new, ← to) there, omega (arith, ap count new, ap length queued)))
      (cases_eq (level visits v) 0)

  module _ (end : End) (start : List Visit) (queued : List ℕ) (node : ℕ) (first next : ℕ → ℕ) (linked : LinkedBy (key end N.arcs) N.nodes (length N.arcs) first next) where
    pub scan_start : (visits : List Visit) (waiting : List ℕ) → Searching N load visits (node ∷ waiting) → node < N.nodes → Scanned N load end visits visits node waiting waiting (first node)
    scan_start visits waiting so in' =
        let last = latest_last (key end N.arcs) node (length N.arcs) in
        let is = linked.0 node in' in
        record {
          so = so;
          keeps = λ v l. refl;
          paced = refl;
          bound = omega (arith, is, last.bound);
          here = λ e h. last.here e (sym is ∙ h);
          over = λ e l h k us. absurd (last.over e l (omega (arith, is)) k);
        }

    pub scan_next : (visits visits' : List Visit) (waiting waiting' : List ℕ) (at e : ℕ) → Scanned N load end start visits node queued waiting at → at ≡ e + 1
        → Searching N load visits' (node ∷ waiting') → Keeps visits visits' → Paced visits visits' waiting waiting' → (Usable N load end e → 0 < level visits' (key (other end) N.arcs e))
        → Scanned N load end start visits' node queued waiting' (next e)
    scan_next visits visits' waiting waiting' at e old is so keeps paced there =
        let in' : e < length N.arcs = omega (arith, old.bound) in
        let here : key end N.arcs e ≡ node = old.here e is in
        let next_is : next e ≡ latest (key end N.arcs) node e = linked.1 e in' ∙ ap (λ v. latest (key end N.arcs) v e) here in
        let last = latest_last (key end N.arcs) node e in
        record {
          so = so;
          keeps = λ v l. keeps v (omega (arith, old.keeps v l)) ∙ old.keeps v l;
          paced = omega (arith, paced, old.paced);
          bound = omega (arith, next_is, last.bound);
          here = λ k h. last.here k (sym next_is ∙ h);
          over = λ k l h n us. ⊎_elim
              (λ s. rw s (there (rw s at us)))
              (λ o. ⊎_elim
              (λ b. absurd (last.over k b (omega (arith, next_is)) n))
              (λ b. let was = old.over k l (omega arith) n us in omega (arith, keeps _ was))
              o)
              (cases_order k e);
        }

-- from both ends of its arcs
pub done_both : (N : Network) (load : List ℕ) (visits visits' : List Visit) (v : ℕ) → Done N load visits Tail v → Keeps visits visits' → Done N load visits' Head v → (end : End) → Done N load visits' end v
done_both N load visits visits' v tails keeps heads Tail e l is us = let was = tails e l is us in omega (arith, keeps _ was)
done_both N load visits visits' v tails keeps heads Head e l is us = heads e l is us

-- a node with a visit is a node
pub level_within : (visits : List Visit) (v : ℕ) → 0 < level visits v → v < length visits
level_within visits v l = ⊎_elim (λ b. b) (λ b. let z : level visits v ≡ 0 = ap (λ m. m.level) (get_or_past visits v unvisited b) in absurd (omega arith)) (cases_lt v (length visits))
