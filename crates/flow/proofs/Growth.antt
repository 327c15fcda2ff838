-- From a search of the residual arcs to a walk, and from a walk to a better flow.
use Rattle.std.proofs.Common.{◌≡◌, ℕ, zero, suc, ◌+◌, ◌-◌, ◌<◌, ◌≤◌, Bool, true, false, cond, not, ◌&&◌, ◌||◌, eqb, ltb, ◌≢◌, List, [], ◌∷◌, length, get_or, Some, None, Option, refl, inl, inr, ⊎_elim, arith}
use Rattle.std.specs.List.{AllByRecursion}
use Rattle.std.proofs.ByRecursion.{All-weaker}
use Rattle.std.proofs.lemmas.Bool.{cases_eq, and_from, and_parts, or_cases, or_left, or_right, eqb-true, eq-eqb, ne_eqb, ltb-true, lt-ltb, not-true, not_from_false, both_ways, cond-true, cond-false}
use Rattle.flow.specs.Network.{Network, Sound, total, Along, Closed, arriving, leaving, is_ranked, below, is_below, Balanced, brought, Flow, Settled}
use Rattle.flow.specs.Pushing.{arc_at, Step, start_of, stop_of, spare, Fitting, Carries, Walk, push_all, Gives}
use Rattle.flow.specs.Theory.{Smallest}
use Rattle.flow.proofs.Pushing.{along_at, walk_carries, augments, below_ranked}
use Rattle.flow.proofs.Ranks.{not_below}

-- the source, or a node of no rank below k at which f leaves a surplus
abbrev pub origin : Network → ℕ → List ℕ → ℕ → Bool
origin N k f v = eqb v N.source || not (below N k v) && ltb (leaving N f v) (arriving N f v)

-- how v was found: as an origin, or by a step with something to spare from a node of R that was found before it
abbrev pub Found : Network → ℕ → List ℕ → (ℕ → Bool) → (ℕ → ℕ) → Option Step → ℕ → Type 0
Found N k f R order None v = (v < N.nodes) × (origin N k f v ≡ true)
Found N k f R order (Some p) v = (stop_of N p ≡ v) × (p.arc < length N.arcs) × (0 < spare N f p) × (R (start_of N p) ≡ true) × (order (start_of N p) < order v)

abbrev pub Tree : Network → ℕ → List ℕ → (ℕ → Bool) → (ℕ → Option Step) → (ℕ → ℕ) → Type 0
Tree N k f R parent order = (v : ℕ) → R v ≡ true → Found N k f R order (parent v) v

-- A search so far, at a time after all that it found: it has found the origins, and of what it found it has a tree.
pub record Searching (N : Network) (k : ℕ) (f : List ℕ) (R : ℕ → Bool) (parent : ℕ → Option Step) (order : ℕ → ℕ) (time : ℕ) : Type 0 where
  pub tree : Tree N k f R parent order
  pub past : (v : ℕ) → R v ≡ true → order v < time
  pub origins : (v : ℕ) → v < N.nodes → origin N k f v ≡ true → R v ≡ true

-- R with v, and a function that is x at v
abbrev pub more_found : (ℕ → Bool) → ℕ → ℕ → Bool
more_found R v u = R u || eqb v u

abbrev pub put : {X : Type 0} → (ℕ → X) → ℕ → X → ℕ → X
put g v x u = cond (eqb v u) x (g u)

-- how many of the nodes below n are not found
abbrev pub unfound : ℕ → (ℕ → Bool) → ℕ
unfound n R = total n (λ v. cond (R v) 0 1)

-- A step to a node that was not found, from one that was, and with something to spare, takes the search on.
abbrev SearchGrows : Type 0
SearchGrows = (N : Network) (k : ℕ) (f : List ℕ) (R : ℕ → Bool) (parent : ℕ → Option Step) (order : ℕ → ℕ) (time : ℕ) → Searching N k f R parent order time → (p : Step) → p.arc < length N.arcs → 0 < spare N f p → R (start_of N p) ≡ true → R (stop_of N p) ≡ false → Searching N k f (more_found R (stop_of N p)) (put parent (stop_of N p) (Some p)) (put order (stop_of N p) time) (suc time)

-- Where no step leads out, the search has found a settled set.
abbrev SearchEnds : Type 0
SearchEnds = (N : Network) → Sound N → (k : ℕ) (f : List ℕ) (R : ℕ → Bool) (parent : ℕ → Option Step) (order : ℕ → ℕ) (time : ℕ) → Searching N k f R parent order time → Along (Closed R) N.arcs f → Settled N k f R

-- What was found lies in every settled set: where it is settled itself, it is the smallest.
abbrev pub TreeSmallest : Type 0
TreeSmallest = (N : Network) (k : ℕ) (f : List ℕ) (R : ℕ → Bool) (parent : ℕ → Option Step) (order : ℕ → ℕ) → Tree N k f R parent order → Settled N k f R → Smallest N k f R

-- To each node found leads a walk from an origin, over no arc twice.
pub record Walked (N : Network) (k : ℕ) (f : List ℕ) (t : ℕ) : Type 0 where
  pub start : ℕ
  pub steps : List Step
  pub within : start < N.nodes
  pub from : origin N k f start ≡ true
  pub walk : Walk N f 1 steps start t

abbrev pub TreeWalks : Type 0
TreeWalks = (N : Network) (k : ℕ) (f : List ℕ) (R : ℕ → Bool) (parent : ℕ → Option Step) (order : ℕ → ℕ) → Tree N k f R parent order → (t : ℕ) → R t ≡ true → Walked N k f t

-- One more to the ranks below k, and no less to the ranks below any smaller j.
pub record Better (N : Network) (k : ℕ) (f : List ℕ) : Type 0 where
  pub loads : List ℕ
  pub flow : Flow N loads
  pub more : brought N k loads ≡ brought N k f + 1
  pub kept : (j : ℕ) → j ≤ k → brought N j f ≤ brought N j loads

-- what a unit carried from an origin to a node of rank below k makes of a flow
abbrev UnitBetter : Type 0
UnitBetter = (N : Network) → Sound N → (k : ℕ) (f g : List ℕ) (s t : ℕ) → Flow N f → Fitting N g → Carries N f g 1 s t → s < N.nodes → origin N k f s ≡ true → t < N.nodes → below N k t ≡ true → Flow N g × (brought N k g ≡ brought N k f + 1) × ((j : ℕ) → j ≤ k → brought N j f ≤ brought N j g)

abbrev Progress : Type 0
Progress = (N : Network) → Sound N → (k : ℕ) (f : List ℕ) (t : ℕ) → Flow N f → Walked N k f t → t < N.nodes → below N k t ≡ true → Better N k f

origin_in : (N : Network) (k : ℕ) (f : List ℕ) (S : ℕ → Bool) → Settled N k f S → (v : ℕ) → v < N.nodes → origin N k f v ≡ true → S v ≡ true
origin_in N k f S set v l e =
    ⊎_elim
    (λ q. rw (eqb-true v N.source q) set.source)
    (λ q. let h = and_parts _ _ q in set.surplus v l (not-true _ h.0) (ltb-true _ _ h.1))
    (or_cases _ _ e)

-- a step with something to spare does not lead out of a closed set
step_in : (N : Network) (f : List ℕ) (S : ℕ → Bool) (p : Step) → Along (Closed S) N.arcs f → p.arc < length N.arcs → 0 < spare N f p → S (start_of N p) ≡ true → S (stop_of N p) ≡ true
step_in N f S p al l = go p.forth
  where
    go : (w : Bool) → 0 < cond w ((arc_at N p.arc).capacity - get_or f p.arc 0) (get_or f p.arc 0) → S (cond w (arc_at N p.arc).tail (arc_at N p.arc).head) ≡ true → S (cond w (arc_at N p.arc).head (arc_at N p.arc).tail) ≡ true
    go true room h = (along_at _ N.arcs f al p.arc l).0 h (omega arith)
    go false load h = (along_at _ N.arcs f al p.arc l).1 h load

-- an earlier step goes over another arc
pub other_arc : (N : Network) (order : ℕ → ℕ) (p q : Step) → order (start_of N p) < order (stop_of N p) → order (start_of N q) < order (stop_of N q) → order (stop_of N q) ≤ order (start_of N p) → q.arc ≢ p.arc
other_arc N order p q up up' le e = go p.forth q.forth up (rw e at up') (rw e at le)
  where
    T : ℕ
    T = (arc_at N p.arc).tail

    H : ℕ
    H = (arc_at N p.arc).head

    go : (v w : Bool) → order (cond v T H) < order (cond v H T) → order (cond w T H) < order (cond w H T) → order (cond w H T) ≤ order (cond v T H) → ⊥
    go true true a b c = omega arith
    go true false a b c = omega arith
    go false true a b c = omega arith
    go false false a b c = omega arith

module _ (N : Network) (k : ℕ) (f : List ℕ) (R : ℕ → Bool) (parent : ℕ → Option Step) (order : ℕ → ℕ) (tree : Tree N k f R parent order) where
  found_in : (S : ℕ → Bool) → Settled N k f S → (v : ℕ) → ((w : ℕ) → order w < order v → R w ≡ true → S w ≡ true) → (o : Option Step) → Found N k f R order o v → S v ≡ true
  found_in S set v before None h = origin_in N k f S set v h.0 h.1
  found_in S set v before (Some p) h = rw h.0 at (step_in N f S p set.residual h.1 h.2 (before (start_of N p) h.4 h.3))

  tree_in : (S : ℕ → Bool) → Settled N k f S → (n v : ℕ) → order v < n → R v ≡ true → S v ≡ true
  tree_in S set zero v l r = absurd (omega arith)
  tree_in S set (suc n) v l r = found_in S set v (λ w m. tree_in S set n w (omega arith)) (parent v) (tree v r)

  -- a walk, with what its steps keep of the order
  Upto : ℕ → Step → Type 0
  Upto v q = (order (start_of N q) < order (stop_of N q)) × (order (stop_of N q) ≤ order v)

  PathTo : ℕ → Type 0
  PathTo v = (w : Walked N k f v) × AllByRecursion (Upto v) w.steps

  found_walk : (v : ℕ) → ((w : ℕ) → order w < order v → R w ≡ true → PathTo w) → (o : Option Step) → Found N k f R order o v → PathTo v
  unfolding PathTo Upto
  found_walk v before None h = (record { start = v; steps = []; within = h.0; from = h.1; walk = refl }, tt)
  found_walk v before (Some p) h =
      let (w, up) = before (start_of N p) h.4 h.3 in
      let rise : order (start_of N p) < order (stop_of N p) = rw h.0 h.4 in (
        record {
          start = w.start;
          steps = p ∷ w.steps;
          within = w.within;
          from = w.from;
          walk = (h.0, h.1, h.2, All-weaker _ _ (λ q u. other_arc N order p q rise u.0 u.1) w.steps up, w.walk);
        },
        ((rise, rw h.0 (omega arith)), All-weaker _ _ (λ q u. (u.0, omega arith)) w.steps up),
      )

  tree_path : (n v : ℕ) → order v < n → R v ≡ true → PathTo v
  tree_path zero v l r = absurd (omega arith)
  tree_path (suc n) v l r = found_walk v (λ w m. tree_path n w (omega arith)) (parent v) (tree v r)

  path_walked : (v : ℕ) → PathTo v → Walked N k f v
  unfolding PathTo
  path_walked v p = p.0

pub tree_smallest : TreeSmallest
tree_smallest N k f R parent order tree set = (set, λ S s v l r. tree_in N k f R parent order tree S s (suc (order v)) v (omega arith) r)

pub tree_walks : TreeWalks
tree_walks N k f R parent order tree t r = path_walked N k f R parent order tree t (tree_path N k f R parent order tree (suc (order t)) t (omega arith) r)

put_here : {X : Type 0} (g : ℕ → X) (v : ℕ) (x : X) (u : ℕ) → v ≡ u → put g v x u ≡ x
put_here g v x u e = cond-true (eqb v u) x (g u) (eq-eqb v u e)

put_other : {X : Type 0} (g : ℕ → X) (v : ℕ) (x : X) (u : ℕ) → v ≢ u → put g v x u ≡ g u
put_other g v x u ne = cond-false (eqb v u) x (g u) (ne_eqb v u ne)

module _ (N : Network) (k : ℕ) (f : List ℕ) (R : ℕ → Bool) (parent : ℕ → Option Step) (order : ℕ → ℕ) (time : ℕ) (S : Searching N k f R parent order time) (p : Step) (l : p.arc < length N.arcs) (room : 0 < spare N f p) (from : R (start_of N p) ≡ true) (new : R (stop_of N p) ≡ false) where
  old : (u : ℕ) → R u ≡ true → stop_of N p ≢ u
  old u h e = both_ways _ (rw (← e) new) h

  found_still : (u : ℕ) → stop_of N p ≢ u → (o : Option Step) → Found N k f R order o u → Found N k f (more_found R (stop_of N p)) (put order (stop_of N p) time) o u
  found_still u ne None h = h
  found_still u ne (Some q) h =
      (h.0, h.1, h.2, or_left _ _ h.3, rw (put_other order (stop_of N p) time (start_of N q) (old _ h.3), put_other order (stop_of N p) time u ne) h.4)

  was_found : (u : ℕ) → more_found R (stop_of N p) u ≡ true → stop_of N p ≢ u → R u ≡ true
  was_found u h ne = ⊎_elim (λ q. q) (λ q. absurd (ne (eqb-true _ _ q))) (or_cases _ _ h)

  grown : Searching N k f (more_found R (stop_of N p)) (put parent (stop_of N p) (Some p)) (put order (stop_of N p) time) (suc time)
  grown = record {
    tree = λ u h. ⊎_elim
        (λ e. rw (put_here parent (stop_of N p) (Some p) u e) (e, l, room, or_left _ _ from, rw (put_other order (stop_of N p) time (start_of N p) (old _ from), put_here order (stop_of N p) time u e) (S.past _ from)))
        (λ ne. rw (put_other parent (stop_of N p) (Some p) u ne) (found_still u ne (parent u) (S.tree u (was_found u h ne))))
        (cases_eq (stop_of N p) u);
    past = λ u h. ⊎_elim
        (λ e. rw (put_here order (stop_of N p) time u e) (omega arith))
        (λ ne. rw (put_other order (stop_of N p) time u ne) (omega (arith, S.past u (was_found u h ne))))
        (cases_eq (stop_of N p) u);
    origins = λ u l o. or_left _ _ (S.origins u l o);
  }

pub search_grows : SearchGrows
search_grows = grown

pub search_ends : SearchEnds
search_ends N sound k f R parent order time S closed = record {
  source = S.origins N.source sound.within (or_left (eqb N.source N.source) _ (eq-eqb N.source N.source refl));
  surplus = λ v m b s. S.origins v m (or_right _ _ (and_from _ _ (not_from_false _ b) (lt-ltb _ _ s)));
  residual = closed;
}

-- an origin can give one, and is of no rank below k
surplus_ranked : (o : Option ℕ) (came went : ℕ) → Balanced o came went → went < came → is_ranked o ≡ true
surplus_ranked (Some r) came went bal l = refl
surplus_ranked None came went bal l = absurd (omega arith)

not_ranked_below : (k : ℕ) (o : Option ℕ) → is_ranked o ≡ false → is_below k o ≡ false
not_ranked_below k (Some r) e = absurd (both_ways true e refl)
not_ranked_below k None e = refl

origin_gives : (N : Network) → Sound N → (k : ℕ) (f : List ℕ) → Flow N f → (s : ℕ) → s < N.nodes → origin N k f s ≡ true → Gives N f 1 s × (below N k s ≡ false)
origin_gives N sound k f flow s l e = ⊎_elim source_gives surplus_gives (cases_eq s N.source)
  where
    source_gives : s ≡ N.source → Gives N f 1 s × (below N k s ≡ false)
    source_gives q = (inl q, not_ranked_below k (N.rank s) (rw q sound.unranked))

    surplus_gives : s ≢ N.source → Gives N f 1 s × (below N k s ≡ false)
    surplus_gives ne =
        ⊎_elim (λ q. absurd (ne (eqb-true _ _ q)))
        (λ q. let h = and_parts _ _ q in
        let m : leaving N f s < arriving N f s = ltb-true _ _ h.1 in
        (inr (surplus_ranked (N.rank s) _ _ (flow.balanced s l ne) m, omega arith), not-true _ h.0))
        (or_cases _ _ e)

pub unit_better : UnitBetter
unit_better N sound k f g s t flow fits goes ls from lt b =
    let give = origin_gives N sound k f flow s ls from in
    let a = augments N sound f g 1 s t flow fits ls lt (below_ranked k (N.rank t) b) give.0 goes in (
      a.0,
      omega (arith, a.1 k, cond-false {A = ℕ} (below N k s) 1 0 give.1, cond-true {A = ℕ} (below N k t) 1 0 b),
      λ j m. omega (arith, a.1 j, cond-false {A = ℕ} (below N j s) 1 0 (not_below (N.rank s) j k m give.1)),
    )

pub progress : Progress
progress N sound k f t flow w l b =
    let c = walk_carries N f 1 w.steps w.start t flow.fits w.walk in
    let a = unit_better N sound k f (push_all f w.steps 1) w.start t flow c.0 c.1 w.within w.from l b in
    record { loads = push_all f w.steps 1; flow = a.0; more = a.1; kept = a.2 }
