-- From one k to the next: what is walled off stays so, what is reached last is the new wall, and what was gained is the new figure.
use Rattle.std.proofs.Common.{◌≡◌, ℕ, suc, ◌+◌, ◌-◌, ◌<◌, ◌≤◌, Bool, true, false, cond, ltb, ◌≢◌, ◌⊎◌, List, length, get_or, set, replicate, Some, None, Option, sym, refl, ap, ◌∙◌, subst, ⊎_elim, arith}
use Rattle.std.proofs.Math.Path.{fun_ext}
use Rattle.std.proofs.lemmas.List.{get_or-set_same, get_or-set_other, get_or-replicate, get_or_past, length-replicate}
use Rattle.std.proofs.lemmas.Bool.{cases_Bool, cases_lt, lt-ltb, le-ltb, eqb-true, both_ways, cond-true, cond-false}
use Rattle.flow.specs.Network.{Network, Sound, Flow, Settled, Cut, arriving, leaving, brought, granted, is_at, is_below, is_ranked}
use Rattle.flow.specs.Theory.{Smallest}
use Rattle.flow.proofs.Duality.{tight, certificate, smallest_cut}
use Rattle.flow.proofs.Pushing.{nothing_flows, carried_none}
use Rattle.flow.proofs.Ranks.{not_below, still_settled, brought_more}
use Rattle.flow.proofs.Sums.{total_zero}
use Rattle.search.specs.Gains.{Idle, Gained}
use Rattle.search.specs.Served.{above, NarrowestCut, Served, Wall, Standing}

-- what keeps nothing of the ranks from j on keeps nothing of those from k on
pub idle_later : (N : Network) (j k : ℕ) (f : List ℕ) → j ≤ k → Idle N j f → Idle N k f
idle_later N j k f l idle v m ne nb = idle v m ne (not_below (N.rank v) j k l nb)

-- and nothing is granted to rank j
at_rank : (r : ℕ) (o : Option ℕ) → is_at r o ≡ true → (is_below r o ≡ false) × (is_ranked o ≡ true)
at_rank r (Some s) e = (le-ltb s r (omega (arith, eqb-true s r e)), refl)
at_rank r None e = absurd (both_ways false refl e)

granted_none : (N : Network) → Sound N → (r : ℕ) (f : List ℕ) → Idle N r f → granted N r f ≡ 0
granted_none N sound r f idle = total_zero N.nodes _ (λ v l. ⊎_elim (here v l) (λ e. cond-false (is_at r (N.rank v)) _ 0 e) (cases_Bool (is_at r (N.rank v))))
  where
    here : (v : ℕ) → v < N.nodes → is_at r (N.rank v) ≡ true → cond (is_at r (N.rank v)) (arriving N f v - leaving N f v) 0 ≡ 0
    here v l e =
        let at = at_rank r (N.rank v) e in
        let ne : v ≢ N.source = λ q. both_ways (is_ranked (N.rank v)) (ap (λ w. is_ranked (N.rank w)) q ∙ sound.unranked) at.1 in
        cond-true (is_at r (N.rank v)) (arriving N f v - leaving N f v) 0 e ∙ omega (arith, idle v l ne at.0)

-- the figure of the last rank below k is noted, and those of the ranks before it are kept
abbrev pub Noted : List ℕ → List ℕ → ℕ → ℕ → Type 0
Noted figures figures' k d =
    ((r : ℕ) → r + 1 ≡ k → get_or figures' r 0 ≡ d) × ((r : ℕ) → r + 1 < k → get_or figures' r 0 ≡ get_or figures r 0)

pub note : (figures figures' : List ℕ) (k d : ℕ) → k ≤ length figures → ((0 < k) × (figures' ≡ set figures (k - 1) d)) ⊎ ((k ≤ 0) × (figures' ≡ figures)) → Noted figures figures' k d
note figures figures' k d l ways =
    ⊎_elim
    (λ w. (
      λ r e. let q : k - 1 ≡ r = omega arith in rw (w.1, q) (get_or-set_same figures r d 0 (omega (arith, w.0))),
      λ r m. rw w.1 (get_or-set_other figures (k - 1) r d 0 (λ e. omega arith)),
    ))
    (λ w. (λ r e. absurd (omega (arith, w.0)), λ r m. ap (λ xs. get_or xs r 0) w.1))
    ways

module _ (N : Network) (sound : Sound N) (k d : ℕ) (f g marks marks' figures figures' : List ℕ) (S : ℕ → Bool)
    (so : Standing N k f marks figures) (gain : Gained N k f g d) (cut : Cut N k S) (small : Smallest N k g S)
    (nodes : (v : ℕ) → S v ≡ true → v < N.nodes) (stamped : (v : ℕ) → get_or marks' v 0 ≡ cond (S v) (k + 1) (get_or marks v 0))
    (noted : Noted figures figures' k d) where
  in_new : (v : ℕ) → S v ≡ true → get_or marks' v 0 ≡ k + 1
  in_new v e = stamped v ∙ cond-true (S v) (k + 1) (get_or marks v 0) e

  as_old : (v : ℕ) → S v ≡ false → get_or marks' v 0 ≡ get_or marks v 0
  as_old v e = stamped v ∙ cond-false (S v) (k + 1) (get_or marks v 0) e

  -- what is reached last is what has the new mark
  new_wall : above marks' k ≡ S
  new_wall = fun_ext (λ v. ⊎_elim
      (λ e. lt-ltb k (get_or marks' v 0) (omega (arith, in_new v e)) ∙ sym e)
      (λ e. le-ltb k (get_or marks' v 0) (omega (arith, as_old v e, so.low v)) ∙ sym e)
      (cases_Bool (S v)))

  -- and it lies in the older walls, which so stay as they are
  old_settled : (j : ℕ) → j < k → Settled N j g (above marks j)
  old_settled j l = gain.kept j (above marks j) (so.walls j l).settled

  lies_in : (j : ℕ) → j < k → (v : ℕ) → S v ≡ true → above marks j v ≡ true
  lies_in j l v e = small.1 (above marks j) (still_settled N g j k (above marks j) (omega arith) (old_settled j l)) v (nodes v e) e

  old_wall : (j : ℕ) → j < k → above marks' j ≡ above marks j
  old_wall j l = fun_ext (λ v. ⊎_elim
      (λ e. lt-ltb j (get_or marks' v 0) (omega (arith, in_new v e)) ∙ sym (lies_in j l v e))
      (λ e. ap (ltb j) (as_old v e))
      (cases_Bool (S v)))

  wall_new : Wall N k g S
  wall_new = record {
    cut = cut;
    settled = small.0;
    inside = λ X cx e. smallest_cut N sound k g S X gain.flow small cx (e ∙ sym (tight N sound k g S gain.flow cut small.0));
  }

  wall_old : (j : ℕ) → j < k → Wall N j g (above marks j)
  wall_old j l = record { cut = (so.walls j l).cut; settled = old_settled j l; inside = (so.walls j l).inside }

  walls_on : (j : ℕ) → j < k + 1 → Wall N j g (above marks' j)
  walls_on j l = ⊎_elim
      (λ b. subst (λ (R : ℕ → Bool). Wall N j g R) (sym (old_wall j b)) (wall_old j b))
      (λ b. let q : j ≡ k = omega arith in rw q (subst (λ (R : ℕ → Bool). Wall N k g R) (sym new_wall) wall_new))
      (cases_lt j k)

  -- a wall holds both flows to its width, so they bring the same
  same_brought : (j : ℕ) → j < k → brought N j g ≡ brought N j f
  same_brought j l =
      tight N sound j g (above marks j) gain.flow (so.walls j l).cut (old_settled j l)
      ∙ sym (tight N sound j f (above marks j) so.flow (so.walls j l).cut (so.walls j l).settled)

  last_share : (r : ℕ) → r + 1 ≡ k → d ≡ granted N r g
  last_share r e =
      let e' : k ≡ suc r = omega arith in
      let q : k - 1 ≡ r = omega arith in
      let none = granted_none N sound r f (subst (λ (j : ℕ). Idle N j f) q so.idle) in
      omega (arith, rw e' at gain.more, brought_more N r f, brought_more N r g, none, same_brought r (omega arith))

  old_share : (r : ℕ) → r + 1 < k → granted N r f ≡ granted N r g
  old_share r l = omega (arith, brought_more N r f, brought_more N r g, same_brought r (omega arith), same_brought (suc r) (omega arith))

  pub standing_on : Standing N (k + 1) g marks' figures'
  standing_on = record {
    flow = gain.flow;
    idle = let e : k + 1 - 1 ≡ k = omega arith in subst (λ (j : ℕ). Idle N j g) (sym e) gain.idle;
    low = λ v. ⊎_elim (λ e. omega (arith, in_new v e)) (λ e. omega (arith, as_old v e, so.low v)) (cases_Bool (S v));
    walls = walls_on;
    shares = λ r l. ⊎_elim (λ b. noted.1 r b ∙ so.shares r b ∙ old_share r b) (λ b. let e : r + 1 ≡ k = omega arith in noted.0 r e ∙ last_share r e) (cases_lt (r + 1) k);
  }

-- nothing flows yet, and nothing is marked
pub standing_start : (N : Network) (f marks figures : List ℕ) (n : ℕ) → f ≡ replicate (length N.arcs) 0 → marks ≡ replicate n 0 → Standing N 0 f marks figures
standing_start N f marks figures n none bare =
    record {
      flow = rw none (nothing_flows N);
      idle = λ v l ne nb. omega (arith, ap (λ x. arriving N x v) none ∙ carried_none _ N.arcs);
      low = λ v. ⊎_elim
          (λ l. omega (arith, ap (λ xs. get_or xs v 0) bare, get_or-replicate {A = ℕ} n v 0 0 l))
          (λ l. omega (arith, get_or_past marks v 0 (omega (arith, ap length bare, length-replicate {A = ℕ} n 0))))
          (cases_lt v n);
      walls = λ j l. absurd (omega arith);
      shares = λ r l. absurd (omega arith);
    }

narrowest_cut : (N : Network) → Sound N → (k : ℕ) (f : List ℕ) (R : ℕ → Bool) → Flow N f → Wall N k f R → NarrowestCut N k f R
narrowest_cut N sound k f R flow wall =
    let sure = certificate N sound k f R flow wall.cut wall.settled in
    record { cut = wall.cut; tight = sure.tight; greatest = sure.greatest; inside = wall.inside }

pub served_all : (N : Network) → Sound N → (ranks : ℕ) (f marks figures : List ℕ) → Standing N (ranks + 1) f marks figures → Served N ranks f marks figures
served_all N sound ranks f marks figures so = record {
  flow = so.flow;
  cuts = λ k l. narrowest_cut N sound k f (above marks k) so.flow (so.walls k (omega arith));
  low = so.low;
  granted = λ r l. so.shares r (omega arith);
}
