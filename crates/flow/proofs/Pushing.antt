-- A push along one arc and along a walk, and the flow that it leaves.
use Rattle.std.proofs.Common.{◌≡◌, ℕ, zero, suc, ◌+◌, ◌-◌, ◌<◌, ◌≤◌, Bool, true, false, cond, eqb, ◌≢◌, List, [], ◌∷◌, length, get_or, set, replicate, Some, None, Option, sym, refl, ap, ◌∙◌, ⊎_elim, arith}
use Rattle.std.specs.List.{AllByRecursion}
use Rattle.std.proofs.lemmas.List.{get_or-set_other}
use Rattle.std.proofs.lemmas.Bool.{cases_eq, eq-eqb, ne_eqb, both_ways}
use Rattle.flow.specs.Network.{Arc, Network, Sound, spread, Along, carried, arriving, leaving, ranked, is_ranked, below, is_below, Balanced, brought, Flow}
use Rattle.flow.specs.Pushing.{no_arc, arc_at, Step, start_of, stop_of, pushed, Fitting, Carries, PushCarries, CarriesOn, Walk, push_all, WalkCarries, Gives, Augments, NothingFlows, Bounded}
use Rattle.flow.proofs.Sums.{cond_none, cond_add, total_pairs, total_pick}
use Rattle.flow.proofs.Duality.{balanced_le, weak_duality_lem}

pub along_length : (P : Arc → ℕ → Type 0) (es : List Arc) (xs : List ℕ) → Along P es xs → length xs ≡ length es
along_length P [] [] al = refl
along_length P [] (x ∷ xs) al = absurd al
along_length P (a ∷ es) [] al = absurd al
along_length P (a ∷ es) (x ∷ xs) al = ap suc (along_length P es xs al.1)

pub along_at : (P : Arc → ℕ → Type 0) (es : List Arc) (xs : List ℕ) → Along P es xs → (i : ℕ) → i < length es → P (get_or es i no_arc) (get_or xs i 0)
along_at P [] xs al i l = absurd (omega arith)
along_at P (a ∷ es) [] al i l = absurd al
along_at P (a ∷ es) (x ∷ xs) al zero l = al.0
along_at P (a ∷ es) (x ∷ xs) al (suc i) l = along_at P es xs al.1 i (omega arith)

pub along_set : (P : Arc → ℕ → Type 0) (es : List Arc) (xs : List ℕ) → Along P es xs → (i y : ℕ) → (i < length es → P (get_or es i no_arc) y) → Along P es (set xs i y)
along_set P [] [] al i y h = tt
along_set P [] (x ∷ xs) al i y h = absurd al
along_set P (a ∷ es) [] al i y h = absurd al
along_set P (a ∷ es) (x ∷ xs) al zero y h = (h (omega arith), al.1)
along_set P (a ∷ es) (x ∷ xs) al (suc i) y h = (al.0, along_set P es xs al.1 i y (λ l. h (omega arith)))

pub spread_set : (g : Arc → ℕ → ℕ) (es : List Arc) (xs : List ℕ) (i y : ℕ) → i < length es → length xs ≡ length es → spread g es (set xs i y) + g (get_or es i no_arc) (get_or xs i 0) ≡ spread g es xs + g (get_or es i no_arc) y
spread_set g [] xs i y l e = absurd (omega arith)
spread_set g (a ∷ es) [] i y l e = absurd (omega arith)
spread_set g (a ∷ es) (x ∷ xs) zero y l e = omega arith
spread_set g (a ∷ es) (x ∷ xs) (suc i) y l e = omega (arith, spread_set g es xs i y (omega arith) (omega arith))

module _ (N : Network) (f : List ℕ) (i d : ℕ) (fits : Fitting N f) (l : i < length N.arcs) where
  moved : (q : Arc → Bool) (y : ℕ) → carried q N.arcs (set f i y) + cond (q (arc_at N i)) (get_or f i 0) 0 ≡ carried q N.arcs f + cond (q (arc_at N i)) y 0
  moved q y = spread_set (λ a x. cond (q a) x 0) N.arcs f i y l (along_length _ N.arcs f fits)

  push_along_lem : d ≤ (arc_at N i).capacity - get_or f i 0 → Fitting N (set f i (get_or f i 0 + d)) × Carries N f (set f i (get_or f i 0 + d)) d (arc_at N i).tail (arc_at N i).head
  push_along_lem room = (
    along_set _ N.arcs f fits i _ (λ _. omega (arith, along_at _ N.arcs f fits i l)),
    λ u. let x = get_or f i 0 in
        omega (arith, moved (λ a. eqb a.head u) (x + d), moved (λ a. eqb a.tail u) (x + d), cond_add (eqb (arc_at N i).head u) x d, cond_add (eqb (arc_at N i).tail u) x d),
  )

  push_against : d ≤ get_or f i 0 → Fitting N (set f i (get_or f i 0 - d)) × Carries N f (set f i (get_or f i 0 - d)) d (arc_at N i).head (arc_at N i).tail
  push_against load = (
    along_set _ N.arcs f fits i _ (λ _. omega (arith, along_at _ N.arcs f fits i l)),
    λ u. let x = get_or f i 0 in
        let y = x - d in
        let e : y + d ≡ x = omega arith in
        let h = cond_add (eqb (arc_at N i).head u) y d in
        let t = cond_add (eqb (arc_at N i).tail u) y d in
        omega (arith, moved (λ a. eqb a.head u) y, moved (λ a. eqb a.tail u) y, rw e at h, rw e at t),
  )

pub push_carries : PushCarries
push_carries N f p d fits l room = go p.forth room
  where
    go : (w : Bool) → d ≤ cond w ((arc_at N p.arc).capacity - get_or f p.arc 0) (get_or f p.arc 0)
        → Fitting N (set f p.arc (cond w (get_or f p.arc 0 + d) (get_or f p.arc 0 - d)))
        × Carries N f (set f p.arc (cond w (get_or f p.arc 0 + d) (get_or f p.arc 0 - d))) d
        (cond w (arc_at N p.arc).tail (arc_at N p.arc).head) (cond w (arc_at N p.arc).head (arc_at N p.arc).tail)
    go true r = push_along_lem N f p.arc d fits l r
    go false r = push_against N f p.arc d fits l r

pub carries_none : (N : Network) (f : List ℕ) (d t : ℕ) → Carries N f f d t t
carries_none N f d t u = refl

pub carries_on : CarriesOn
carries_on N f g h d t v w first next u = omega (arith, first u, next u)

-- a push leaves what other arcs have to spare
walk_kept : (N : Network) (f : List ℕ) (d i y : ℕ) (ps : List Step) (s t : ℕ) → AllByRecursion (λ q. q.arc ≢ i) ps → Walk N f d ps s t → Walk N (set f i y) d ps s t
walk_kept N f d i y [] s t away w = w
walk_kept N f d i y (p ∷ ps) s t away w =
    let same = get_or-set_other f i p.arc y 0 away.0 in
    (w.0, w.1, rw same w.2, w.3, walk_kept N f d i y ps s (start_of N p) away.1 w.4)

pub walk_carries : WalkCarries
walk_carries N f d [] s t fits w = (fits, λ u. rw w refl)
walk_carries N f d (p ∷ ps) s t fits w =
    let one = push_carries N f p d fits w.1 w.2 in
    let rest = walk_carries N (pushed f p d) d ps s (start_of N p) one.0 (walk_kept N f d p.arc _ ps s (start_of N p) w.3 w.4) in
    (rest.0, rw w.0 at (carries_on N f (pushed f p d) (push_all f (p ∷ ps) d) d (stop_of N p) (start_of N p) s one.1 rest.1))

pub below_ranked : (k : ℕ) (o : Option ℕ) → is_below k o ≡ true → is_ranked o ≡ true
below_ranked k (Some r) e = refl
below_ranked k None e = e

still_balanced : (o : Option ℕ) (came went came' went' less more : ℕ) → Balanced o came went → came' + went + less ≡ came + went' + more → went + less ≤ came → (is_ranked o ≡ false → (less ≡ 0) × (more ≡ 0)) → Balanced o came' went'
still_balanced (Some r) came went came' went' less more bal e room none = omega arith
still_balanced None came went came' went' less more bal e room none = omega (arith, none refl)

counts : (b : Bool) (came went came' went' less more : ℕ) → (b ≡ true → (went ≤ came) × (went' ≤ came')) → came' + went + less ≡ came + went' + more → cond b (came' - went') 0 + cond b less 0 ≡ cond b (came - went) 0 + cond b more 0
counts true came went came' went' less more le e = omega (arith, le refl)
counts false came went came' went' less more le e = refl

amount_none : (a b d : ℕ) → a ≢ b → cond (eqb a b) d 0 ≡ 0
amount_none a b d ne = rw (ne_eqb a b ne)

module _ (N : Network) (sound : Sound N) (f g : List ℕ) (d s t : ℕ) (flow : Flow N f) (end : ranked N t ≡ true) (gives : Gives N f d s) (goes : Carries N f g d s t) where
  apart_from : (v w : ℕ) → ranked N v ≡ true → ranked N w ≡ false → v ≢ w
  apart_from v w has lacks e = both_ways (ranked N w) lacks (rw (← e) has)

  not_giver : (v : ℕ) → v ≢ N.source → ranked N v ≡ false → s ≢ v
  not_giver v ne lacks = ⊎_elim (λ e q. ne (sym q ∙ e)) (λ h. apart_from s v h.0 lacks) gives

  enough : (v : ℕ) → v < N.nodes → v ≢ N.source → leaving N f v + cond (eqb s v) d 0 ≤ arriving N f v
  enough v l ne =
      ⊎_elim
      (λ e. ⊎_elim (λ q. absurd (ne (sym e ∙ q))) (λ h. rw (← e, eq-eqb s s refl) h.1) gives)
      (λ q. omega (arith, amount_none s v d q, balanced_le (N.rank v) _ _ (flow.balanced v l ne)))
      (cases_eq s v)

  augmented : (v : ℕ) → v < N.nodes → v ≢ N.source → Balanced (N.rank v) (arriving N g v) (leaving N g v)
  augmented v l ne =
      still_balanced (N.rank v) _ _ _ _ _ _ (flow.balanced v l ne) (goes v) (enough v l ne)
      (λ lacks. (amount_none s v d (not_giver v ne lacks), amount_none t v d (apart_from t v end lacks)))

  gained : s < N.nodes → t < N.nodes → (k : ℕ) → brought N k g + cond (below N k s) d 0 ≡ brought N k f + cond (below N k t) d 0
  gained ls lt k =
      let each = total_pairs N.nodes _ _ _ _ (λ v l. counts (below N k v) _ _ _ _ _ _ (both v l) (goes v)) in
      omega (arith, each, total_pick (below N k) s d N.nodes ls, total_pick (below N k) t d N.nodes lt)
    where
      both : (v : ℕ) → v < N.nodes → below N k v ≡ true → (leaving N f v ≤ arriving N f v) × (leaving N g v ≤ arriving N g v)
      both v l b =
          let ne : v ≢ N.source = apart_from v N.source (below_ranked k (N.rank v) b) sound.unranked in
          (balanced_le (N.rank v) _ _ (flow.balanced v l ne), balanced_le (N.rank v) _ _ (augmented v l ne))

pub augments : Augments
augments N sound f g d s t flow fits ls lt end gives goes =
    (record { fits = fits; balanced = augmented N sound f g d s t flow end gives goes }, gained N sound f g d s t flow end gives goes ls lt)

pub carried_none : (p : Arc → Bool) (es : List Arc) → carried p es (replicate (length es) 0) ≡ 0
carried_none p [] = refl
carried_none p (a ∷ es) = omega (arith, cond_none (p a), carried_none p es)

fits_none : (es : List Arc) → Along (λ a x. x ≤ a.capacity) es (replicate (length es) 0)
fits_none [] = tt
fits_none (a ∷ es) = (omega arith, fits_none es)

balanced_same : (o : Option ℕ) (came went : ℕ) → came ≡ went → Balanced o came went
balanced_same (Some r) came went e = omega arith
balanced_same None came went e = e

pub nothing_flows : NothingFlows
nothing_flows N = record {
  fits = fits_none N.arcs;
  balanced = λ v l ne. balanced_same (N.rank v) _ _ (carried_none _ N.arcs ∙ sym (carried_none _ N.arcs));
}

pub bounded : Bounded
bounded N sound k f flow = weak_duality_lem N sound k f (eqb N.source) flow (record { source = eq-eqb _ _ refl; apart = λ v l b. ne_eqb _ _ (λ e. both_ways _ (rw (← e) sound.unranked) (below_ranked k (N.rank v) b)) })
