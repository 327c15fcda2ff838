-- A search that grows by a node at a time ends settled; a flow that is not greatest is improved until it is.
use Rattle.std.proofs.Common.{◌≡◌, ℕ, zero, suc, ◌+◌, ◌-◌, ◌<◌, ◌≤◌, Bool, true, false, cond, ◌&&◌, ◌||◌, eqb, ltb, ◌⊎◌, List, [], ◌∷◌, length, get_or, Some, None, Option, sym, refl, ◌∙◌, subst, inl, inr, ⊎_elim, arith}
use Rattle.std.proofs.ByRecursion.{All-get_or}
use Rattle.std.proofs.lemmas.Bool.{cases_eq, cases_lt, cases_Bool, and_from, and_parts, eqb-true, lt-ltb, ltb-true, both_ways, cond-false, cond_both}
use Rattle.flow.specs.Network.{Arc, Network, Sound, Along, Closed, below, brought, granted, Flow, Cut, width, Settled}
use Rattle.flow.specs.Theory.{Greatest, First, Bottleneck, GreatestBottleneck, BestExists, FirstGreatest, FirstUnique}
use Rattle.flow.specs.Pushing.{no_arc, Step, start_of, stop_of, spare}
use Rattle.flow.proofs.Sums.{total_part, total_same, total_add, total_pick}
use Rattle.flow.proofs.Duality.{certificate}
use Rattle.flow.proofs.Ranks.{alike, lexicographic}
use Rattle.flow.proofs.Pushing.{nothing_flows, bounded}
use Rattle.flow.proofs.Growth.{origin, Searching, unfound, more_found, put, Better, search_grows, search_ends, tree_smallest, tree_walks, progress}

-- each number below n fails the test, or one passes
pub find_below : (n : ℕ) (p : ℕ → Bool) → ((v : ℕ) → v < n → p v ≡ false) ⊎ ((v : ℕ) × (v < n) × (p v ≡ true))
find_below zero p = inl (λ v l. absurd (omega arith))
find_below (suc n) p =
    ⊎_elim
    (λ none. ⊎_elim (λ e. inr (n, omega arith, e)) (λ e. inl (λ v l. ⊎_elim (λ q. rw q e) (λ ne. none v (omega arith)) (cases_eq v n))) (cases_Bool (p n)))
    (λ h. inr (h.0, omega (arith, h.1), h.2))
    (find_below n p)

-- a step out of R
abbrev LeadsOut : List Arc → List ℕ → (ℕ → Bool) → ℕ → Bool → Type 0
LeadsOut es xs R i w =
    (i < length es) × (0 < cond w ((get_or es i no_arc).capacity - get_or xs i 0) (get_or xs i 0)) × (R (cond w (get_or es i no_arc).tail (get_or es i no_arc).head) ≡ true)
    × (R (cond w (get_or es i no_arc).head (get_or es i no_arc).tail) ≡ false)

arc_out : (t h : Bool) (x c : ℕ) → ((t ≡ true → x < c → h ≡ true) × (h ≡ true → 0 < x → t ≡ true)) ⊎ (((t ≡ true) × (h ≡ false) × (0 < c - x)) ⊎ ((h ≡ true) × (t ≡ false) × (0 < x)))
arc_out true true x c = inl (λ _ _. refl, λ _ _. refl)
arc_out false false x c = inl (λ e _. e, λ e _. e)
arc_out true false x c = ⊎_elim (λ l. inr (inl (refl, refl, omega arith))) (λ l. inl (λ _ m. absurd (omega arith), λ _ _. refl)) (cases_lt x c)
arc_out false true x c = ⊎_elim (λ l. inr (inr (refl, refl, l))) (λ l. inl (λ _ _. refl, λ _ m. absurd (omega arith))) (cases_lt 0 x)

out_of : (R : ℕ → Bool) (es : List Arc) (xs : List ℕ) → Along (λ a x. x ≤ a.capacity) es xs → Along (Closed R) es xs ⊎ ((i : ℕ) × (w : Bool) × LeadsOut es xs R i w)
out_of R [] [] fits = inl tt
out_of R [] (x ∷ xs) fits = absurd fits
out_of R (a ∷ es) [] fits = absurd fits
out_of R (a ∷ es) (x ∷ xs) fits =
    ⊎_elim
    (λ here. ⊎_elim (λ rest. inl (here, rest)) (λ s. inr (suc s.0, s.1, (omega (arith, s.2.0), s.2.1, s.2.2, s.2.3))) (out_of R es xs fits.1))
    (λ o. inr (⊎_elim (λ h. (0, true, (omega arith, h.2, h.0, h.1))) (λ h. (0, false, (omega arith, h.2, h.0, h.1))) o))
    (arc_out (R a.tail) (R a.head) x a.capacity)

-- a search, with what it found, by which steps and in which order
record Search (N : Network) (k : ℕ) (f : List ℕ) : Type 0 where
  found : ℕ → Bool
  parent : ℕ → Option Step
  order : ℕ → ℕ
  time : ℕ
  state : Searching N k f found parent order time

one_less : (r e : Bool) → (e ≡ true → r ≡ false) → cond {A = ℕ} (r || e) 0 1 + cond e 1 0 ≡ cond r 0 1
one_less true true h = absurd (both_ways true (h refl) refl)
one_less true false h = refl
one_less false true h = refl
one_less false false h = refl

pub unfound_less : (n : ℕ) (R : ℕ → Bool) (v : ℕ) → v < n → R v ≡ false → unfound n (more_found R v) + 1 ≡ unfound n R
unfound_less n R v l out =
    let one = total_pick (λ _. true) v 1 n l in
    let same = total_same n _ _ (λ u _. one_less (R u) (eqb v u) (λ e. rw (← eqb-true v u e) out)) in
    omega (arith, one, sym (total_add n (λ u. cond (more_found R v u) 0 1) (λ u. cond (eqb v u) 1 0)) ∙ same)

grown : (N : Network) (k : ℕ) (f : List ℕ) (S : Search N k f) (p : Step) → p.arc < length N.arcs → 0 < spare N f p → S.found (start_of N p) ≡ true → S.found (stop_of N p) ≡ false → Search N k f
grown N k f S p l room from new = record {
  found = more_found S.found (stop_of N p);
  parent = put S.parent (stop_of N p) (Some p);
  order = put S.order (stop_of N p) S.time;
  time = suc S.time;
  state = search_grows N k f S.found S.parent S.order S.time S.state p l room from new;
}

-- a search that is at its end
abbrev Ended : (N : Network) → ℕ → List ℕ → Type 0
Ended N k f = (S : Search N k f) × Settled N k f S.found

begun : (N : Network) (k : ℕ) (f : List ℕ) → Search N k f
begun N k f = record {
  found = λ v. ltb v N.nodes && origin N k f v;
  parent = λ v. None;
  order = λ v. 0;
  time = 1;
  state = record {
    tree = λ v h. let b = and_parts _ _ h in (ltb-true _ _ b.0, b.1);
    past = λ v h. omega arith;
    origins = λ v l o. and_from _ _ (lt-ltb _ _ l) o;
  };
}

module _ (N : Network) (sound : Sound N) (k : ℕ) (f : List ℕ) (fits : Along (λ a x. x ≤ a.capacity) N.arcs f) where
  stop_within : (p : Step) → p.arc < length N.arcs → stop_of N p < N.nodes
  stop_within p l =
      let h = All-get_or _ N.arcs p.arc no_arc l sound.ends in
      cond_both p.forth _ _ (λ v. v < N.nodes) (λ _. h.1) (λ _. h.0)

  ended : (S : Search N k f) → Along (Closed S.found) N.arcs f → Ended N k f
  ended S closed = (S, search_ends N sound k f S.found S.parent S.order S.time S.state closed)

  search_on : (n : ℕ) (S : Search N k f) → unfound N.nodes S.found ≤ n → Ended N k f
  unfolding grown
  search_on zero S le =
      ⊎_elim (λ closed. ended S closed)
      (λ s. let p : Step = record { arc = s.0; forth = s.1 } in
      absurd (omega (arith, total_part N.nodes (λ v. cond (S.found v) 0 1) (stop_of N p) (stop_within p s.2.0), cond-false {A = ℕ} (S.found (stop_of N p)) 0 1 s.2.3)))
      (out_of S.found N.arcs f fits)
  search_on (suc n) S le =
      ⊎_elim (λ closed. ended S closed)
      (λ s. let p : Step = record { arc = s.0; forth = s.1 } in
      search_on n (grown N k f S p s.2.0 s.2.1 s.2.2 s.2.3) (omega (arith, unfound_less N.nodes S.found (stop_of N p) (stop_within p s.2.0) s.2.3)))
      (out_of S.found N.arcs f fits)

  searched : Ended N k f
  searched = search_on (unfound N.nodes (begun N k f).found) (begun N k f) (omega arith)

-- what a search found is a bottleneck, or it found a node of rank below k
module _ (N : Network) (sound : Sound N) (k : ℕ) (f : List ℕ) (flow : Flow N f) where
  bottleneck : (S : Search N k f) → Settled N k f S.found → ((v : ℕ) → v < N.nodes → (below N k v && S.found v) ≡ false) → Bottleneck N k f
  bottleneck S set none =
      let cut : Cut N k S.found = record {
        source = set.source;
        apart = λ v l b. ⊎_elim (λ h. absurd (both_ways _ (none v l) (and_from _ _ b h))) (λ h. h) (cases_Bool (S.found v));
      } in
      record {
        set = S.found;
        cut = cut;
        smallest = tree_smallest N k f S.found S.parent S.order S.state.tree set;
        tight = (certificate N sound k f S.found flow cut set).tight;
      }

  -- f has a bottleneck for k, or there is a better flow
  pub decided : Bottleneck N k f ⊎ Better N k f
  decided =
      let (S, set) = searched N sound k f flow.fits in
      ⊎_elim (λ none. inl (bottleneck S set none))
      (λ t. let b = and_parts _ _ t.2 in inr (progress N sound k f t.0 flow (tree_walks N k f S.found S.parent S.order S.state.tree t.0 b.1) t.1 b.0))
      (find_below N.nodes (λ v. below N k v && S.found v))

bottleneck_greatest : (N : Network) → Sound N → (k : ℕ) (f : List ℕ) → Flow N f → Bottleneck N k f → Greatest N k f
bottleneck_greatest N sound k f flow b = (certificate N sound k f b.set flow b.cut b.smallest.0).greatest

pub greatest_bottleneck : GreatestBottleneck
greatest_bottleneck N sound k f flow most =
    ⊎_elim (λ b. b) (λ b. absurd (omega (arith, most b.loads b.flow, b.more))) (decided N sound k f flow)

-- From any flow there is one that is greatest for k and brings no less to the ranks below each j up to k.
record Improved (N : Network) (k : ℕ) (f : List ℕ) : Type 0 where
  loads : List ℕ
  flow : Flow N loads
  greatest : Greatest N k loads
  kept : (j : ℕ) → j ≤ k → brought N j f ≤ brought N j loads

abbrev Improves : Type 0
Improves = (N : Network) → Sound N → (k : ℕ) (f : List ℕ) → Flow N f → Improved N k f

improve : (N : Network) → Sound N → (k n : ℕ) (f : List ℕ) → Flow N f → width N (eqb N.source) ≤ n + brought N k f → Improved N k f
improve N sound k zero f flow le =
    record { loads = f; flow = flow; greatest = λ g fl. omega (arith, bounded N sound k g fl); kept = λ j l. omega arith }
improve N sound k (suc n) f flow le =
    ⊎_elim
    (λ b. record { loads = f; flow = flow; greatest = bottleneck_greatest N sound k f flow b; kept = λ j l. omega arith })
    (λ b. let i = improve N sound k n b.loads b.flow (omega (arith, b.more)) in
    record { loads = i.loads; flow = i.flow; greatest = i.greatest; kept = λ j l. omega (arith, b.kept j l, i.kept j l) })
    (decided N sound k f flow)

improves : Improves
improves N sound k f flow = improve N sound k (width N (eqb N.source)) f flow (omega arith)

pub best_exists : BestExists
best_exists N sound zero =
    let i = improves N sound 0 _ (nothing_flows N) in
    record { loads = i.loads; flow = i.flow; greatest = λ k l. subst (λ j. Greatest N j i.loads) (omega arith) i.greatest }
best_exists N sound (suc K) =
    let b = best_exists N sound K in
    let i = improves N sound (suc K) b.loads b.flow in
    record {
      loads = i.loads;
      flow = i.flow;
      greatest = λ k l. ⊎_elim (λ e. rw e i.greatest) (λ ne g fl. omega (arith, b.greatest k (omega arith) g fl, i.kept k l)) (cases_eq k (suc K));
    }

granted_upto : (N : Network) (K : ℕ) (f g : List ℕ) → Flow N f → Flow N g → First N K f → First N K g → (n : ℕ) → n ≤ K → (r : ℕ) → r < n → granted N r f ≡ granted N r g
granted_upto N K f g flow flow' first first' zero l r m = absurd (omega arith)
granted_upto N K f g flow flow' first first' (suc n) l r m =
    let below-n = granted_upto N K f g flow flow' first first' n (omega arith) in
    ⊎_elim
    (λ e. rw e (omega (arith, first g flow' n l (λ j h. sym (below-n j h)), first' f flow n l below-n)))
    (λ ne. below-n r (omega arith))
    (cases_eq r n)

pub first_unique : FirstUnique
first_unique N K f g flow flow' first first' r l = granted_upto N K f g flow flow' first first' K (omega arith) r l

pub first_greatest : FirstGreatest
first_greatest N sound K f flow first k l g fl =
    let b = best_exists N sound K in
    let same = first_unique N K f b.loads flow b.flow first (lexicographic N K b.loads b.greatest) in
    omega (arith, b.greatest k l g fl, alike N b.loads f k (λ j m. same j (omega arith)))
