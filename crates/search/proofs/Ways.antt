-- The way back from a node that was reached.
use Rattle.std.proofs.Common.{◌≡◌, ℕ, zero, suc, ◌-◌, ◌<◌, ◌≤◌, Bool, true, false, ◌≢◌, ◌⊎◌, List, length, get_or, set, sym, refl, ap, ◌∙◌, subst, inl, inr, ⊎_elim, arith}
use Rattle.std.proofs.lemmas.List.{get_or-set_other}
use Rattle.std.proofs.lemmas.Bool.{cases_eq, ltb-true, lt-ltb}
use Rattle.flow.specs.declared.Arc.{Arc}
use Rattle.flow.specs.Network.{Network}
use Rattle.flow.specs.Pushing.{no_arc, Step, Fitting, Carries}
use Rattle.flow.proofs.Pushing.{push_carries, carries_on, carries_none}
use Rattle.search.specs.Links.{key}
use Rattle.search.specs.Ends.{other, usable_by, spare_by, raised_by}
use Rattle.search.specs.Residual.{Closed}
use Rattle.search.specs.Visits.{visit_of, level, parent, Entered, Tree, Open}
use Rattle.search.specs.Ways.{spare_to, Ample, Sent}
use Rattle.search.proofs.Turn.{level_within}
use Rattle.search.specs.declared.end.End.{End}
use Rattle.search.specs.declared.end.End.TheVariants.{Tail, Head}
use Rattle.search.specs.declared.visit.Visit.{Visit}

-- from node back to at there is room for `amount`
pub record Walking (N : Network) (load : List ℕ) (visits : List Visit) (node at amount : ℕ) : Type 0 where
  pub inside : at < length visits
  pub live : 0 < level visits at
  pub some : Open N load visits → 0 < amount
  pub ample : (d : ℕ) → d ≤ amount → Ample N load visits d (level visits at - 1) at → Ample N load visits d (level visits node - 1) node

-- an arc may be crossed just where there is something to spare
pub usable_spare : (end : End) (a : Arc) (load : ℕ) → usable_by end a load ≡ true → 0 < spare_by end a load
usable_spare Tail a load t = omega (arith, ltb-true load a.capacity t)
usable_spare Head a load t = ltb-true 0 load t

spare_usable : (end : End) (a : Arc) (load : ℕ) → 0 < spare_by end a load → usable_by end a load ≡ true
spare_usable Tail a load t = lt-ltb load a.capacity (omega arith)
spare_usable Head a load t = lt-ltb 0 load t

module _ (N : Network) (visits : List Visit) (tree : Tree N visits) where
  not_source : (v : ℕ) → 1 < level visits v → v ≢ N.source
  not_source v l s = let z : level visits v ≡ 1 = rw s tree.root in omega arith

  pub entered : (v : ℕ) → 1 < level visits v → Entered N visits v
  entered v l = tree.enters v (omega arith) (not_source v l)

  pub at_source : (v : ℕ) → 0 < level visits v → level visits v ≤ 1 → v ≡ N.source
  at_source v l h = ⊎_elim (λ s. s) (λ d. let in' = tree.enters v l d in absurd (omega (arith, in'.rises, in'.starts))) (cases_eq v N.source)

  module _ (load : List ℕ) where
    pub walk_start : (node amount : ℕ) → 0 < level visits node → 0 < amount → Walking N load visits node node amount
    walk_start node amount l s = record { inside = level_within visits node l; live = l; some = λ _. s; ample = λ d h a. a }

    ample_more : (d v : ℕ) → 1 < level visits v → d ≤ spare_to N load visits v → Ample N load visits d (level visits (parent N visits v) - 1) (parent N visits v) → Ample N load visits d (level visits v - 1) v
    ample_more d v l h a =
        let in' = entered v l in
        let e : level visits v - 1 ≡ suc (level visits (parent N visits v) - 1) = omega (arith, in'.rises, in'.starts) in
        subst (λ (n : ℕ). Ample N load visits d n v) (sym e) (h, a)

    pub ample_less : (d v : ℕ) → 1 < level visits v → Ample N load visits d (level visits v - 1) v → (d ≤ spare_to N load visits v) × Ample N load visits d (level visits (parent N visits v) - 1) (parent N visits v)
    ample_less d v l a =
        let in' = entered v l in
        let e : level visits v - 1 ≡ suc (level visits (parent N visits v) - 1) = omega (arith, in'.rises, in'.starts) in
        subst (λ (n : ℕ). Ample N load visits d n v) e a

    pub walk_more : (node at amount less p : ℕ) → Walking N load visits node at amount → 1 < level visits at → p ≡ parent N visits at → (0 < amount → 0 < spare_to N load visits at → 0 < less) → less ≤ amount → less ≤ spare_to N load visits at → Walking N load visits node p less
    walk_more node at amount less p so l is s h k =
        rw is
        (record {
          inside = level_within visits _ (entered at l).starts;
          live = (entered at l).starts;
          some = λ o. s (so.some o) (usable_spare (visit_of visits at).side _ _ (o at (omega arith) (not_source at l)));
          ample = λ d b a. so.ample d (omega arith) (ample_more d at l (omega arith) a);
        })

    -- a way with something to spare stays in each set that no arc to be crossed leaves
    pub stays : (d : ℕ) → 0 < d → (R : ℕ → Bool) → R N.source ≡ true → Closed N load R → (n v : ℕ) → level visits v ≡ suc n → Ample N load visits d n v → R v ≡ true
    stays d some R root closed zero v is a = ap R (at_source v (omega arith) (omega arith)) ∙ root
    stays d some R root closed (suc n) v is a =
        let in' = entered v (omega arith) in
        let m = visit_of visits v in
        let before = stays d some R root closed n (parent N visits v) (omega (arith, in'.rises)) a.1 in
        let next = closed m.side m.arc in'.numbered before (spare_usable m.side _ _ (omega (arith, a.0))) in
        ap R (sym in'.ends) ∙ next

    pub stays_at : (d : ℕ) → 0 < d → (R : ℕ → Bool) → R N.source ≡ true → Closed N load R → (v : ℕ) → 0 < level visits v → Ample N load visits d (level visits v - 1) v → R v ≡ true
    stays_at d some R root closed v l a = stays d some R root closed (level visits v - 1) v (omega arith) a

-- one arc's load changed
raise_one : (end : End) (N : Network) (load : List ℕ) (e d : ℕ) → Fitting N load → e < length N.arcs → d ≤ spare_by end (get_or N.arcs e no_arc) (get_or load e 0)
    → Fitting N (set load e (raised_by end (get_or load e 0) d)) × Carries N load (set load e (raised_by end (get_or load e 0) d)) d (key end N.arcs e) (key (other end) N.arcs e)
raise_one Tail N load e d fits in' room = let p : Step = record { arc = e; forth = true } in push_carries N load p d fits in' room
raise_one Head N load e d fits in' room = let p : Step = record { arc = e; forth = false } in push_carries N load p d fits in' room

other_cases : (a b : End) → (a ≡ b) ⊎ (a ≡ other b)
other_cases Tail Tail = inl refl
other_cases Tail Head = inr refl
other_cases Head Tail = inr refl
other_cases Head Head = inl refl

-- loads raised by d on the way from node back to at
pub record Pushing (N : Network) (before load : List ℕ) (visits : List Visit) (node at d : ℕ) : Type 0 where
  pub inside : at < length visits
  pub live : 0 < level visits at
  pub fits : Fitting N load
  pub kept : (w : ℕ) → 1 < level visits w → level visits w ≤ level visits at → get_or load (visit_of visits w).arc 0 ≡ get_or before (visit_of visits w).arc 0
  pub ample : Ample N before visits d (level visits at - 1) at
  pub carries : Carries N before load d at node
  pub closed : (R : ℕ → Bool) → R N.source ≡ true → Closed N before R → Closed N load R

module _ (N : Network) (before : List ℕ) (visits : List Visit) (tree : Tree N visits) where
  -- nodes of other levels were reached by other arcs
  apart : (w v : ℕ) → 1 < level visits w → level visits w < level visits v → (visit_of visits w).arc ≢ (visit_of visits v).arc
  apart w v l h same =
      let arcs = N.arcs in
      let of-w = entered N visits tree w l in
      let of-v = entered N visits tree v (omega arith) in
      let sw = (visit_of visits w).side in
      let sv = (visit_of visits v).side in
      ⊎_elim
      (λ s. let z : w ≡ v = sym of-w.ends ∙ ap (λ k. key (other k) arcs (visit_of visits w).arc) s ∙ ap (key (other sv) arcs) same ∙ of-v.ends in omega (arith, ap (level visits) z))
      (λ s. let y : parent N visits w ≡ v = ap (λ k. key k arcs (visit_of visits w).arc) s ∙ ap (key (other sv) arcs) same ∙ of-v.ends in omega (arith, ap (level visits) y, of-w.rises))
      (other_cases sw sv)

  pub push_start : (node d : ℕ) → 0 < level visits node → Fitting N before → Ample N before visits d (level visits node - 1) node → Pushing N before before visits node node d
  push_start node d l fits a = record { inside = level_within visits node l; live = l; fits = fits; kept = λ w _ _. refl; ample = a; carries = carries_none N before d node; closed = λ R root cl. cl }

  -- what the next arc has room for
  pub push_room : (load : List ℕ) (node at d : ℕ) → Pushing N before load visits node at d → 1 < level visits at
      → (d ≤ spare_to N load visits at) × Ample N before visits d (level visits (parent N visits at) - 1) (parent N visits at)
  push_room load node at d so l =
      let m = visit_of visits at in
      let both = ample_less N visits tree before d at l so.ample in
      let same = so.kept at l (omega arith) in
      (omega (arith, both.0, ap (λ y. spare_by m.side (get_or N.arcs m.arc no_arc) y) same), both.1)

  -- both ends of the arc that a node was reached by, and so either
  either_end : (R : ℕ → Bool) (at : ℕ) → 1 < level visits at → R at ≡ true → R (parent N visits at) ≡ true → (end : End) → R (key end N.arcs (visit_of visits at).arc) ≡ true
  either_end R at l here there end =
      let m = visit_of visits at in
      ⊎_elim
      (λ s. ap (λ k. R (key k N.arcs m.arc)) s ∙ there)
      (λ s. ap (λ k. R (key k N.arcs m.arc)) s ∙ ap R (entered N visits tree at l).ends ∙ here)
      (other_cases end m.side)

  -- a load changed on an arc that lies in the set
  closed_more : (R : ℕ → Bool) (load : List ℕ) (e y : ℕ) → ((end : End) → R (key end N.arcs e) ≡ true) → Closed N load R → Closed N (set load e y) R
  closed_more R load e y both closed end k in' is us =
      ⊎_elim
      (λ s. ap (λ j. R (key (other end) N.arcs j)) s ∙ both (other end))
      (λ n. closed end k in' is (ap (usable_by end (get_or N.arcs k no_arc)) (sym (get_or-set_other load e k y 0 n)) ∙ us))
      (cases_eq k e)

  pub push_more : (load after : List ℕ) (node at d p x : ℕ) → 0 < d → Pushing N before load visits node at d → 1 < level visits at → p ≡ parent N visits at
      → x ≡ raised_by (visit_of visits at).side (get_or load (visit_of visits at).arc 0) d → after ≡ set load (visit_of visits at).arc x → Pushing N before after visits node p d
  push_more load after node at d p x some so l is raised changed =
      let in' = entered N visits tree at l in
      let m = visit_of visits at in
      let room = push_room load node at d so l in
      let e = (visit_of visits at).arc in
      let now' : after ≡ set load (visit_of visits at).arc (raised_by (visit_of visits at).side (get_or load (visit_of visits at).arc 0) d) = changed ∙ ap (set load (visit_of visits at).arc) raised in
      let one = raise_one m.side N load e d so.fits in'.numbered room.0 in
      let y = raised_by m.side (get_or load e 0) d in
      let two : Carries N load (set load e y) d (parent N visits at) at = subst (λ (t : ℕ). Carries N load (set load e y) d (parent N visits at) t) in'.ends one.1 in
      rw (now', is)
      (record {
        inside = level_within visits (parent N visits at) in'.starts;
        live = in'.starts;
        fits = one.0;
        kept = λ w a b. get_or-set_other load e (visit_of visits w).arc y 0 (apart w at a (omega (arith, in'.rises))) ∙ so.kept w a (omega (arith, in'.rises));
        ample = room.1;
        carries = carries_on N before load (set load e y) d node at (parent N visits at) so.carries two;
        closed = λ R root cl. closed_more R load e y
            (either_end R at l
            (stays_at N visits tree before d some R root cl at so.live so.ample)
            (stays_at N visits tree before d some R root cl (parent N visits at) in'.starts room.1))
            (so.closed R root cl);
      })

  pub push_end : (load : List ℕ) (node at d : ℕ) → 0 < d → 0 < level visits node → Ample N before visits d (level visits node - 1) node → Pushing N before load visits node at d → level visits at ≤ 1 → Sent N before load d node
  push_end load node at d some l a so low =
      let end = at_source N visits tree at so.live low in
      record {
        fits = so.fits;
        carries = subst (λ (v : ℕ). Carries N before load d v node) end so.carries;
        closed = so.closed;
        holds = λ R root cl. stays_at N visits tree before d some R root cl node l a;
      }
