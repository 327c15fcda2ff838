-- What `latest` says, and the step of the loop that links arcs.
use Rattle.std.proofs.Common.{◌≡◌, ℕ, zero, suc, ◌+◌, ◌<◌, ◌≤◌, eqb, ◌≢◌, Some, None, Option, sym, refl, ◌∙◌, ⊎_elim, add-one, arith}
use Rattle.std.proofs.lemmas.Bool.{cases_eq, cases_lt, eq-eqb, ne_eqb, cond-true, cond-false}
use Rattle.search.specs.Entries.{linked}
use Rattle.search.specs.Links.{LinkedBy, latest}

-- the link to an arc, or to none
abbrev pub link_to : Option ℕ → ℕ
link_to None = 0
link_to (Some e) = e + 1

pub link_linked : (n : ℕ) → link_to (linked n) ≡ n
link_linked zero = refl
link_linked (suc e) = add-one e

module _ (at : ℕ → ℕ) (v : ℕ) where
  pub latest_hit : (e : ℕ) → at e ≡ v → latest at v (e + 1) ≡ e + 1
  latest_hit e h = rw add-one (cond-true (eqb (at e) v) (suc e) (latest at v e) (eq-eqb (at e) v h))

  pub latest_miss : (e : ℕ) → (at e ≡ v → ⊥) → latest at v (e + 1) ≡ latest at v e
  latest_miss e h = rw add-one (cond-false (eqb (at e) v) (suc e) (latest at v e) (ne_eqb (at e) v h))

  -- it is not past the arcs looked at, it is at v, and no later one is
  pub record Last (n h : ℕ) : Type 0 where
    pub bound : h ≤ n
    pub here : (e : ℕ) → h ≡ e + 1 → at e ≡ v
    pub over : (e : ℕ) → e < n → h ≤ e → at e ≡ v → ⊥

  pub latest_last : (n : ℕ) → Last n (latest at v n)
  latest_last zero = record { bound = omega arith; here = λ e h. absurd (omega arith); over = λ e l. absurd (omega arith) }
  latest_last (suc n) =
      let before = latest_last n in
      ⊎_elim
      (λ h. let q : latest at v (suc n) ≡ suc n = cond-true (eqb (at n) v) (suc n) (latest at v n) (eq-eqb (at n) v h) in
      record { bound = omega arith; here = λ e r. let z : e ≡ n = omega arith in rw z h; over = λ e l m _. omega arith })
      (λ d. let q : latest at v (suc n) ≡ latest at v n = cond-false (eqb (at n) v) (suc n) (latest at v n) (ne_eqb (at n) v d) in
      record {
        bound = omega (arith, before.bound);
        here = λ e r. before.here e (sym q ∙ r);
        over = λ e l m k. ⊎_elim (λ b. before.over e b (omega arith) k) (λ b. let z : e ≡ n = omega arith in d (rw z at k)) (cases_lt e n);
      })
      (cases_eq (at n) v)

-- one arc more is linked at the node that it has at that end
pub linked_more : (at : ℕ → ℕ) (nodes e : ℕ) (first next first' next' : ℕ → ℕ) → LinkedBy at nodes e first next → at e < nodes
    → first' (at e) ≡ e + 1 → ((v : ℕ) → v ≢ at e → first' v ≡ first v) → next' e ≡ first (at e) → ((k : ℕ) → k < e → next' k ≡ next k)
    → LinkedBy at nodes (e + 1) first' next'
linked_more at nodes e first next first' next' so in-first new-first old-first new-next old-next = (
  λ v l. ⊎_elim
      (λ s. rw s (new-first ∙ sym (latest_hit at (at e) e refl)))
      (λ d. old-first v d ∙ so.0 v l ∙ sym (latest_miss at v e (λ q. d (sym q))))
      (cases_eq v (at e)),
  λ k l. ⊎_elim
      (λ s. rw s (new-next ∙ so.0 (at e) in-first))
      (λ d. old-next k (omega arith) ∙ so.1 k (omega arith))
      (cases_eq k e),
)
