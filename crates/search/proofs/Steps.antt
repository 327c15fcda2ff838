-- How a search goes on: one node reached, one node done, and what holds when none is left.
use Rattle.std.proofs.Common.{◌≡◌, ℕ, zero, suc, ◌+◌, ◌<◌, Bool, true, cond, ltb, ◌≢◌, ◌⊎◌, List, [], ◌∷◌, ◌++◌, length, set, sum_by, sym, refl, ap, ◌∙◌, inl, inr, ⊎_elim, arith}
use Rattle.std.proofs.lemmas.List.{get_or-set_same, get_or-set_other, length-set, length_push}
use Rattle.std.proofs.lemmas.List.Sums.{sum_by-set}
use Rattle.std.proofs.lemmas.Bool.{cases_eq, ltb-true, lt-ltb, le-ltb, cond-true, cond-false}
use Rattle.flow.specs.Network.{Network}
use Rattle.search.specs.Links.{key}
use Rattle.search.specs.Ends.{other}
use Rattle.search.specs.Residual.{Usable, Closed, Reach}
use Rattle.search.specs.Visits.{unvisited, visit_of, level, reached, Entered, Tree, Open, In, Done, count, Searching, Keeps}
use Rattle.search.specs.declared.end.End.{End}
use Rattle.search.specs.declared.visit.Visit.{Visit}

pub in_left : (v : ℕ) (xs ys : List ℕ) → In v xs → In v (xs ++ ys)
in_left v [] ys i = absurd i
in_left v (x ∷ xs) ys i = ⊎_elim (λ e. inl e) (λ j. inr (in_left v xs ys j)) i

pub in_last : (w v : ℕ) (xs : List ℕ) → w ≡ v → In w (xs ++ (v ∷ []))
in_last w v [] e = inl e
in_last w v (x ∷ xs) e = inr (in_last w v xs e)

pub in_cases : (v y : ℕ) (xs : List ℕ) → In v (xs ++ (y ∷ [])) → In v xs ⊎ (v ≡ y)
in_cases v y [] i = ⊎_elim (λ e. inr e) (λ j. absurd j) i
in_cases v y (x ∷ xs) i = ⊎_elim (λ e. inl (inl e)) (λ j. ⊎_elim (λ k. inl (inr k)) (λ e. inr e) (in_cases v y xs j)) i

-- one visit more

pub count_more : (visits : List Visit) (v : ℕ) (m : Visit) → v < length visits → level visits v ≡ 0 → 0 < m.level → count (set visits v m) ≡ count visits + 1
count_more visits v m in' none some =
    let f : Visit → ℕ = λ k. cond (ltb 0 k.level) 1 0 in
    let both : sum_by f (set visits v m) + f (visit_of visits v) ≡ sum_by f visits + f m = sum_by-set f visits v m unvisited in' in
    let was : f (visit_of visits v) ≡ 0 = cond-false (ltb 0 (level visits v)) 1 0 (le-ltb 0 (level visits v) (omega arith)) in
    let is : f m ≡ 1 = cond-true (ltb 0 m.level) 1 0 (lt-ltb 0 m.level some) in
    omega (arith, both, was, is)

module _ (N : Network) (load : List ℕ) where
  entered_by : (visits : List Visit) (v : ℕ) (m : Visit) → visit_of visits v ≡ m → m.arc < length N.arcs → key (other m.side) N.arcs m.arc ≡ v → 0 < level visits (key m.side N.arcs m.arc) → m.level ≡ level visits (key m.side N.arcs m.arc) + 1 → Entered N visits v
  entered_by visits v m is a c d e =
      record {
        numbered = rw is a;
        ends = rw is c;
        starts = rw is d;
        rises = ap (λ k. k.level) is ∙ e ∙ ap (λ k. level visits (key k.side N.arcs k.arc) + 1) (sym is);
      }

  open_by : (visits : List Visit) (v : ℕ) (m : Visit) → visit_of visits v ≡ m → Usable N load m.side m.arc → Usable N load (visit_of visits v).side (visit_of visits v).arc
  open_by visits v m is u = rw is u

  -- what is known of the visits after v, reached from u along the arc e, has its visit
  module _ (visits : List Visit) (items : List ℕ) (u v e : ℕ) (end : End)
      (so : Searching N load visits (u ∷ items))
      (numbered : e < length N.arcs) (from : key end N.arcs e ≡ u) (use' : Usable N load end e) (to : key (other end) N.arcs e ≡ v)
      (within : v < length visits) (fresh : level visits v ≡ 0) where
    abbrev made : Visit
    made = record { level = level visits u + 1; arc = e; side = end }

    abbrev after : List Visit
    after = set visits v made

    at_v : visit_of after v ≡ made
    at_v = get_or-set_same visits v made unvisited within

    at_other : (w : ℕ) → w ≢ v → visit_of after w ≡ visit_of visits w
    at_other w d = get_or-set_other visits v w made unvisited d

    pub reach_keeps : Keeps visits after
    reach_keeps w l = ap (λ k. k.level) (at_other w (λ s. let z : level visits w ≡ 0 = rw s fresh in omega arith))

    grows : (w : ℕ) → 0 < level visits w → 0 < level after w
    grows w l = omega (arith, reach_keeps w l)

    level_v : level after v ≡ level visits u + 1
    level_v = ap (λ k. k.level) at_v

    at_u : 0 < level visits u
    at_u = so.visited u (inl refl)

    pub reach_count : count after ≡ count visits + 1
    reach_count = count_more visits v made within fresh (omega arith)

    enters : (w : ℕ) → 0 < level after w → w ≢ N.source → Entered N after w
    enters w l d =
        ⊎_elim
        (λ s. rw s (entered_by after v made at_v numbered to (rw from (grows u at_u)) (ap (λ n. n + 1) (sym (reach_keeps u at_u) ∙ ap (level after) (sym from)))))
        (λ s.
        let same = at_other w s in
        let old : 0 < level visits w = omega (arith, ap (λ k. k.level) same) in
        let was = so.tree.enters w old d in
        entered_by after w (visit_of visits w) same was.numbered was.ends (grows _ was.starts) (was.rises ∙ ap (λ n. n + 1) (sym (reach_keeps _ was.starts))))
        (cases_eq w v)

    opens : Open N load after
    opens w l d =
        ⊎_elim
        (λ s. rw s (open_by after v made at_v use'))
        (λ s.
        let same = at_other w s in
        let old : 0 < level visits w = omega (arith, ap (λ k. k.level) same) in
        open_by after w (visit_of visits w) same (so.opened w old d))
        (cases_eq w v)

    pub reach_step : Searching N load after (u ∷ (items ++ (v ∷ [])))
    reach_step =
        record {
          tree = record { sized = length-set visits v made ∙ so.tree.sized; root = reach_keeps N.source (omega (arith, so.tree.root)) ∙ so.tree.root; enters = enters };
          opened = opens;
          rest = λ w l. ⊎_elim
              (λ s. inl (inr (in_last w v items s)))
              (λ s.
              let old : 0 < level visits w = omega (arith, ap (λ k. k.level) (at_other w s)) in
              ⊎_elim (λ i. inl (in_left w (u ∷ items) (v ∷ []) i)) (λ d. inr (λ end k in' is us. grows _ (d end k in' is us))) (so.rest w old))
              (cases_eq w v);
          visited = λ w i. ⊎_elim
              (λ s. rw s (grows u at_u))
              (λ j. ⊎_elim (λ k. grows w (so.visited w (inr k))) (λ s. rw s (omega (arith, level_v))) (in_cases w v items j))
              i;
          low = λ w. ⊎_elim
              (λ s. rw s (omega (arith, level_v, reach_count, so.low u)))
              (λ s. omega (arith, ap (λ k. k.level) (at_other w s), reach_count, so.low w))
              (cases_eq w v);
          few = omega (arith, reach_count, so.few, length_push items v);
        }

  -- a node whose arcs are all looked at
  pub done_step : (visits : List Visit) (items : List ℕ) (u : ℕ) → Searching N load visits (u ∷ items) → ((end : End) → Done N load visits end u) → Searching N load visits items
  done_step visits items u so done =
      record {
        tree = so.tree;
        opened = so.opened;
        rest = λ v l. ⊎_elim (λ i. ⊎_elim (λ s. inr (λ end e in' is us. done end e in' (is ∙ s) us)) (λ j. inl j) i) (λ d. inr d) (so.rest v l);
        visited = λ v i. so.visited v (inr i);
        low = so.low;
        few = omega (arith, so.few);
      }

  -- the first visit
  pub first_step : (visits : List Visit) (m : Visit) → length visits ≡ N.nodes → N.source < N.nodes → ((v : ℕ) → level visits v ≡ 0) → m.level ≡ 1 → Searching N load (set visits N.source m) (N.source ∷ [])
  first_step visits m sized within none one =
      let here : N.source < length visits = omega arith in
      let after = set visits N.source m in
      let more : count (set visits N.source m) ≡ count visits + 1 = count_more visits N.source m here (none N.source) (omega arith) in
      let is : visit_of (set visits N.source m) N.source ≡ m = get_or-set_same visits N.source m unvisited here in
      let root : level (set visits N.source m) N.source ≡ 1 = ap (λ k. k.level) is ∙ one in
      let off : (v : ℕ) → v ≢ N.source → level (set visits N.source m) v ≡ 0 = λ v d. ap (λ k. k.level) (get_or-set_other visits N.source v m unvisited d) ∙ none v in
      record {
        tree = record { sized = length-set visits N.source m ∙ sized; root = root; enters = λ v l d. absurd (omega (arith, off v d)) };
        opened = λ v l d. absurd (omega (arith, off v d));
        rest = λ v l. ⊎_elim (λ s. inl (inl s)) (λ d. absurd (omega (arith, off v d))) (cases_eq v N.source);
        visited = λ v i. ⊎_elim (λ s. rw s (omega (arith, root))) (λ j. absurd j) i;
        low = λ v. ⊎_elim (λ s. rw s (omega (arith, root, more))) (λ d. omega (arith, off v d)) (cases_eq v N.source);
        few = omega (arith, more);
      }

  -- none is left
  least : (visits : List Visit) → Tree N visits → Open N load visits → (R : ℕ → Bool) → R N.source ≡ true → Closed N load R → (n v : ℕ) → level visits v ≡ n → 0 < n → R v ≡ true
  least visits tree opened R root closed zero v is some = absurd (omega arith)
  least visits tree opened R root closed (suc n) v is some =
      ⊎_elim
      (λ s. rw s root)
      (λ d.
      let in' = tree.enters v (omega arith) d in
      let m = visit_of visits v in
      let before = least visits tree opened R root closed n (key m.side N.arcs m.arc) (omega (arith, in'.rises)) (omega (arith, in'.rises, in'.starts)) in
      let next = closed m.side m.arc in'.numbered before (opened v (omega arith) d) in
      ap R (sym in'.ends) ∙ next)
      (cases_eq v N.source)

  pub all_steps : (visits : List Visit) → Searching N load visits [] → Reach N load (reached visits)
  all_steps visits so =
      record {
        source = lt-ltb 0 (level visits N.source) (omega (arith, so.tree.root));
        closed = λ end e in' is us. lt-ltb 0 (level visits (key (other end) N.arcs e)) (⊎_elim (λ i. absurd i) (λ d. d end e in' refl us) (so.rest (key end N.arcs e) (ltb-true 0 _ is)));
        least = λ R root closed v is. least visits so.tree so.opened R root closed (level visits v) v refl (ltb-true 0 (level visits v) is);
      }
