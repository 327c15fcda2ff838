-- What is gained by sending more to a ranked node, and by doing so again and again.
use Rattle.std.proofs.Common.{◌≡◌, ℕ, ◌+◌, ◌-◌, ◌<◌, ◌≤◌, Bool, true, false, cond, ◌&&◌, eqb, ◌≢◌, List, Some, None, Option, sym, refl, ap, ◌∙◌, subst, inl, ⊎_elim, arith}
use Rattle.std.proofs.lemmas.Bool.{cases_eq, cases_lt, ltb-true, lt-ltb, ne_eqb, both_ways, cond-true, cond-false}
use Rattle.flow.specs.Network.{Network, Sound, Along, Flow, Settled, Closed as Shut, Cut, arriving, leaving, below, is_below, is_ranked, brought, width}
use Rattle.flow.specs.Theory.{Smallest}
use Rattle.flow.specs.Pushing.{Fitting}
use Rattle.flow.proofs.Pushing.{along_at, along_length, augments, below_ranked}
use Rattle.flow.proofs.Loops.{along_from}
use Rattle.search.specs.Residual.{Closed, Reach}
use Rattle.flow.proofs.Pushing.{bounded}
use Rattle.search.specs.Visits.{Found, Open, reached}
use Rattle.search.specs.Gains.{Idle, Gained, Unserved}
use Rattle.search.specs.Ways.{Sent}
use Rattle.search.specs.declared.end.End.TheVariants.{Tail, Head}
use Rattle.search.specs.declared.visit.Visit.{Visit}

-- that no arc to be crossed leaves a set, arc by arc or by number and end
pub closed_from : (N : Network) (f : List ℕ) (R : ℕ → Bool) → Along (Shut R) N.arcs f → Closed N f R
closed_from N f R al Tail e in' is us = (along_at (Shut R) N.arcs f al e in').0 is (ltb-true _ _ us)
closed_from N f R al Head e in' is us = (along_at (Shut R) N.arcs f al e in').1 is (ltb-true _ _ us)

pub closed_to : (N : Network) (f : List ℕ) (R : ℕ → Bool) → Fitting N f → Closed N f R → Along (Shut R) N.arcs f
closed_to N f R fits cl = along_from (Shut R) N.arcs f (along_length _ N.arcs f fits) (λ i l. (λ t x. cl Tail i l t (lt-ltb _ _ x), λ h x. cl Head i l h (lt-ltb _ _ x)))

none_at : (w v d : ℕ) → w ≢ v → cond (eqb w v) d 0 ≡ 0
none_at w v d ne = cond-false (eqb w v) d 0 (ne_eqb w v ne)

not_below_unranked : (k : ℕ) (o : Option ℕ) → is_ranked o ≡ false → is_below k o ≡ false
not_below_unranked k (Some r) e = absurd (both_ways true e refl)
not_below_unranked k None e = refl

module _ (N : Network) (f g : List ℕ) (d t : ℕ) (sent : Sent N f g d t) where
  settled_on : (j : ℕ) (R : ℕ → Bool) → Settled N j f R → Settled N j g R
  settled_on j R set =
      let cl = closed_from N f R set.residual in
      record {
        source = set.source;
        surplus = λ v l nb over. ⊎_elim
            (λ e. ap R e ∙ sent.holds R set.source cl)
            (λ ne. ⊎_elim
            (λ more. set.surplus v l nb more)
            (λ less. absurd (omega (arith, sent.carries v, none_at t v d (λ q. ne (sym q)))))
            (cases_lt (leaving N f v) (arriving N f v)))
            (cases_eq v t);
        residual = closed_to N g R sent.fits (sent.closed R set.source cl);
      }

  idle_on : (k : ℕ) → Idle N k f → below N k t ≡ true → Idle N k g
  idle_on k idle b v l ne nb =
      let other : t ≢ v = λ e. both_ways (below N k v) nb (ap (below N k) (sym e) ∙ b) in
      omega (arith, sent.carries v, none_at t v d other, none_at N.source v d (λ e. ne (sym e)), idle v l ne nb)

  pub gain_one : Sound N → (k : ℕ) → Flow N f → Idle N k f → t < N.nodes → below N k t ≡ true → Gained N k f g d
  gain_one sound k flow idle l b =
      let a = augments N sound f g d N.source t flow sent.fits sound.within l (below_ranked k (N.rank t) b) (inl refl) sent.carries in
      record {
        flow = a.0;
        idle = idle_on k idle b;
        more = omega (arith, a.1 k, cond-false (below N k N.source) d 0 (not_below_unranked k (N.rank N.source) sound.unranked), cond-true (below N k t) d 0 b);
        kept = settled_on;
      }

pub gain_none : (N : Network) (k : ℕ) (f : List ℕ) → Flow N f → Idle N k f → Gained N k f f 0
gain_none N k f flow idle = record { flow = flow; idle = idle; more = omega arith; kept = λ j R set. set }

pub gain_on : (N : Network) (k : ℕ) (f g h : List ℕ) (a b : ℕ) → Gained N k f g a → Gained N k g h b → Gained N k f h (a + b)
gain_on N k f g h a b one two = record { flow = two.flow; idle = two.idle; more = omega (arith, one.more, two.more); kept = λ j R set. two.kept j R (one.kept j R set) }

-- what is gained is not more than leaves the source, so it fits a counter
pub gain_bound : (N : Network) → Sound N → (k : ℕ) (f g : List ℕ) (d : ℕ) → Gained N k f g d → d ≤ width N (eqb N.source)
gain_bound N sound k f g d gain = omega (arith, gain.more, bounded N sound k g gain.flow)

-- what a search finds, where only the ranks below k keep anything, is the smallest settled set
pub found_smallest : (N : Network) (k : ℕ) (f : List ℕ) (S : ℕ → Bool) → Flow N f → Idle N k f → Reach N f S → Smallest N k f S
found_smallest N k f S flow idle reach = (
  record {
    source = reach.source;
    surplus = λ v l nb over. ⊎_elim (λ e. ap S e ∙ reach.source) (λ ne. absurd (omega (arith, idle v l ne nb))) (cases_eq v N.source);
    residual = closed_to N f S flow.fits reach.closed;
  },
  λ R set v l is. reach.least R set.source (closed_from N f R set.residual) v is,
)

-- a node that is no target

not_both : (a b : Bool) → (a && b) ≡ false → b ≡ true → a ≡ false
not_both true b e t = absurd (both_ways b e t)
not_both false b e t = refl

pub both_parts : (a b : Bool) → (a && b) ≡ true → (a ≡ true) × (b ≡ true)
both_parts true b e = (refl, e)
both_parts false b e = absurd (both_ways false refl e)

pub no_target : (N : Network) (k : ℕ) (f : List ℕ) (visits : List Visit) (v : ℕ) → (reached visits v && below N k v) ≡ false → Unserved N k f f visits v (v + 1)
no_target N k f visits v e = record { same = refl; away = λ o u l m b. let q : v ≡ u = omega arith in not_both (reached visits u) (below N k u) (ap (λ w. reached visits w && below N k w) (sym q) ∙ e) b }

pub no_room : (N : Network) (k : ℕ) (f g : List ℕ) (visits : List Visit) (v : ℕ) → g ≡ f → (Open N f visits → ⊥) → Unserved N k f g visits v (v + 1)
no_room N k f g visits v e none = record { same = e; away = λ o. absurd (none o) }

-- the loop over the nodes
pub record Drained (N : Network) (k : ℕ) (f g : List ℕ) (visits : List Visit) (total v : ℕ) : Type 0 where
  pub gained : Gained N k f g total
  pub none : total ≡ 0 → Unserved N k f g visits 0 v

pub drain_start : (N : Network) (k : ℕ) (f : List ℕ) (visits : List Visit) → Flow N f → Idle N k f → Drained N k f f visits 0 0
drain_start N k f visits flow idle = record { gained = gain_none N k f flow idle; none = λ _. record { same = refl; away = λ o u l m. absurd (omega arith) } }

unserved_on : (N : Network) (k : ℕ) (f g h : List ℕ) (visits : List Visit) (v : ℕ) → Unserved N k f g visits 0 v → Unserved N k g h visits v (v + 1) → Unserved N k f h visits 0 (v + 1)
unserved_on N k f g h visits v one two =
    record {
      same = two.same ∙ one.same;
      away = λ o u l m b. ⊎_elim
          (λ before. one.away o u l before b)
          (λ after. two.away (let P : List ℕ → Type 0 = λ x. Open N x visits in subst P (sym one.same) o) u after m b)
          (cases_lt u v);
    }

pub drain_turn : (N : Network) (k : ℕ) (f g h : List ℕ) (visits : List Visit) (total d v : ℕ) → Drained N k f g visits total v → Gained N k g h d → (d ≡ 0 → Unserved N k g h visits v (v + 1)) → Drained N k f h visits (total + d) (v + 1)
drain_turn N k f g h visits total d v so gain un =
    record {
      gained = gain_on N k f g h total d so.gained gain;
      none = λ e. unserved_on N k f g h visits v (so.none (omega arith)) (un (omega arith));
    }

-- a round: a search, and a push to what it reached
pub round_less : (N : Network) → Sound N → (k : ℕ) (f g h : List ℕ) (a b : ℕ) → Gained N k f g a → Gained N k g h b → b ≢ 0 → width N (eqb N.source) - brought N k h < width N (eqb N.source) - brought N k g
round_less N sound k f g h a b so gain some = omega (arith, gain.more, bounded N sound k h gain.flow)

-- where nothing was pushed, what is reached is the smallest settled set and a cut
pub round_last : (N : Network) (k : ℕ) (f g h : List ℕ) (a : ℕ) (visits : List Visit) → Gained N k f g a → Found N g visits → Unserved N k g h visits 0 N.nodes
    → Gained N k f h a × Found N h visits × Cut N k (reached visits) × Smallest N k h (reached visits)
round_last N k f g h a visits so found un =
    let P : List ℕ → Type 0 = λ x. Gained N k f x a × Found N x visits × Cut N k (reached visits) × Smallest N k x (reached visits) in
    subst P (sym un.same) (
      so,
      found,
      record { source = found.reach.source; apart = λ v l b. un.away found.opened v (omega arith) l b },
      found_smallest N k g (reached visits) so.flow so.idle found.reach,
    )
