-- A feasible plan with a split is a flow on the day network: its live departures, the split up to the horizon, and all owed paid.
use Rattle.std.proofs.Common.{◌≡◌, ℕ, suc, ◌+◌, ◌-◌, ◌*◌, ◌/◌, ◌%◌, ◌<◌, ◌≤◌, Bool, true, false, cond, ◌&&◌, eqb, ltb, leb, ◌≢◌, List, length, Some, None, sym, refl, ap, ◌∙◌, subst, ⊎_elim, arith}
use Rattle.std.proofs.lemmas.Nat.{div-add-mod', div_below, mod_below}
use Rattle.std.proofs.lemmas.Bool.{cases_lt, cases_eq, cases_Bool, cond-true, cond-false, eq-eqb, ne_eqb, eqb-true, leb-true, le-leb, lt-leb, and_left, and_parts}
use Rattle.flow.specs.declared.Arc.{Arc}
use Rattle.flow.specs.Network as net
use Rattle.flow.specs.Network.{total, Balanced}
use Rattle.flow.proofs.Sums.{total_same, total_zero, total_part, cond_none}
use Rattle.timetable.specs.Plans.{Timetable, Sound, lane, depot, is_depot, departs, arriving, leaving, Feasible, Split}
use Rattle.timetable.specs.Live.{live_departure}
use Rattle.timetable.proofs.Duality.{one_depot, no_depot}
use Rattle.timetable.proofs.Sums.{some_below_from, some_below_at, cond_same}
use Rattle.timetable.proofs.Live.{only_live_loaded}
use Rattle.timetable.specs.Quotes.{Ranking, all_owed, ahead}
use Rattle.day_network.specs.DayNetwork.{listed, no_departure, departure_arc, depot_arc, owed_arc, place_rank, node_rank, day}
use Rattle.day_network.specs.DayTheory.{Carries, PlanToFlow}
use Rattle.day_network.proofs.Totals.{total_upto}
use Rattle.day_network.proofs.Arcs.{periods, periods_is, Each, along_listed}
use Rattle.day_network.proofs.Nodes.{Quiet, came, went, came_place, went_place, went_origin, came_owed, went_owed, went_all}
use Rattle.day_network.proofs.Brought.{node_count_is, by_depot, depot_ranked, late_unranked, yard_unranked, rank_place, past_unranked, brought_is}
use Rattle.day_network.proofs.FlowPlan.{no_extra}

live_fits : (b : Bool) (a : Arc) (x : ℕ) → (b ≡ true → x ≤ a.capacity) → cond b x 0 ≤ (cond b a no_departure).capacity
live_fits true a x l = l refl
live_fits false a x l = omega arith

cond_le : (b : Bool) (x y : ℕ) → (b ≡ true → x ≤ y) → cond b x 0 ≤ cond b y 0
cond_le true x y l = l refl
cond_le false x y l = omega arith

module _ (S : Timetable) (sound : Sound S) (owed : ℕ → ℕ) (R : Ranking) (p q : ℕ → ℕ → ℕ) (plan : Feasible S p) (splits : Split S owed p q) where
  -- the loads: nothing on departures that are not live, nor after the horizon
  abbrev p' : ℕ → ℕ → ℕ
  p' l t = cond (live_departure S l t) (p l t) 0

  abbrev q' : ℕ → ℕ → ℕ
  q' d t = cond (leb t S.horizon) (q d t) 0

  quiet : Quiet S p'
  quiet l t m n e = rw e

  -- on departures the plan is as it was
  same_plan : (l t : ℕ) → l < length S.lanes → departs S l t ≡ true → p' l t ≡ p l t
  same_plan l t m e =
      ⊎_elim (λ live. cond-true _ (p l t) 0 live) (λ dead. cond-false _ (p l t) 0 dead ∙ sym (only_live_loaded S sound p plan l t m e dead)) (cases_Bool (live_departure S l t))

  no_plan : (l t : ℕ) → S.horizon < t + (lane S l).transit → p' l t ≡ 0
  no_plan l t m = cond-false _ (p l t) 0 (and_left (departs S l t) _ (lt-leb _ _ m))

  same_arriving : (y u : ℕ) → u ≤ S.horizon → arriving S p' y u ≡ arriving S p y u
  same_arriving y u m =
      total_same (length S.lanes) _ _ (λ l n. cond_same (eqb (lane S l).to y && leb (lane S l).transit u) _ _
      (λ e. same_plan l (u - (lane S l).transit) n (le-leb _ _ (omega (arith, leb-true _ _ (and_parts (eqb (lane S l).to y) _ e).1)))))

  same_leaving : (y u : ℕ) → leaving S p' y u ≡ leaving S p y u
  same_leaving y u =
      total_same (length S.lanes) _ _ (λ l n. cond_same (eqb (lane S l).from y && departs S l u) _ _ (λ e. same_plan l u n (and_parts (eqb (lane S l).from y) _ e).1))

  late_arriving : (y u : ℕ) → S.horizon < u → arriving S p' y u ≡ 0
  late_arriving y u m =
      total_zero (length S.lanes) _ (λ l n. rw (no_plan l (u - (lane S l).transit) (omega arith)) (cond_none _))

  late_leaving : (y u : ℕ) → S.horizon < u → leaving S p' y u ≡ 0
  late_leaving y u m = total_zero (length S.lanes) _ (λ l n. rw (no_plan l u (omega arith)) (cond_none _))

  fits : Each S (λ a x. x ≤ a.capacity) (departure_arc S) (depot_arc S owed) (owed_arc owed) p' q' owed
  fits =
      record {
        departures = λ l t m n. live_fits (live_departure S l t) _ (p l t) (λ e. plan.fits l t m (and_parts (departs S l t) _ e).0);
        places = λ d t m n. cond_le (leb t S.horizon) (q d t) (owed d) (λ e.
            let h = leb-true t S.horizon e in omega (arith, total_part (suc S.horizon) (q d) t (omega arith), splits.whole d m));
        depots = λ d m. omega arith;
      }

  -- a place passes on what comes, and a depot place pays its part of what stays
  abbrev at_depots : ℕ → ℕ → ℕ
  at_depots y u = total (length S.depots) (λ d. cond (eqb (depot S d) y) (q' d u) 0)

  even_upto : (u : ℕ) → u ≤ S.horizon → (y : ℕ) → y ≢ S.origin → Balanced (place_rank S (Some R) y u) (arriving S p' y u) (leaving S p' y u + at_depots y u)
  even_upto u m =
      by_depot S sound (λ y. y ≢ S.origin → Balanced (place_rank S (Some R) y u) (arriving S p' y u) (leaving S p' y u + at_depots y u))
      (λ d l ne. rw (depot_ranked S sound R d u l m)
      (omega (arith, same_arriving (depot S d) u m, same_leaving (depot S d) u, one_depot S sound (λ e. q' e u) d l, cond-true _ (q d u) 0 (le-leb u S.horizon m), splits.part d u l m, plan.keeps (depot S d) u m (is_one d l))))
      (λ y e ne. rw (yard_unranked S sound (Some R) y u e)
      (omega (arith, same_arriving y u m, same_leaving y u, no_depot S (λ e. q' e u) y e, plan.passes y u m ne e)))
    where
      is_one : (d : ℕ) → d < length S.depots → is_depot S (depot S d) ≡ true
      is_one d l = some_below_from (length S.depots) (λ e. eqb (depot S e) (depot S d)) d l (eq-eqb _ _ refl)

  even : (y u : ℕ) → y ≢ S.origin → Balanced (place_rank S (Some R) y u) (arriving S p' y u) (leaving S p' y u + at_depots y u)
  even y u ne =
      ⊎_elim
      (λ m. rw (late_unranked S sound (Some R) y u m)
      (omega (arith, late_arriving y u m, late_leaving y u m, total_zero (length S.depots) (λ d. cond (eqb (depot S d) y) (q' d u) 0) (λ d l. rw (lt-leb u S.horizon m) (cond_none _)))))
      (λ m. even_upto u m y ne) (cases_lt S.horizon u)

  no_origin : (u : ℕ) → arriving S p' S.origin u ≡ 0
  no_origin u = total_zero (length S.lanes) _ (λ l n. rw (ne_eqb (lane S l).to S.origin (sound.outward l n).0))

  origin_unranked : (u : ℕ) → place_rank S (Some R) S.origin u ≡ None
  origin_unranked u = yard_unranked S sound (Some R) S.origin u (⊎_elim (λ t. absurd (found t)) (λ e. e) (cases_Bool (is_depot S S.origin)))
    where
      found : is_depot S S.origin ≡ true → ⊥
      found t = let f = some_below_at (length S.depots) (λ d. eqb (depot S d) S.origin) t in (sound.yards f.0 f.1).1 (eqb-true _ _ f.2)

  abbrev Even : ℕ → Type 0
  Even v = Balanced (node_rank S (Some R) v) (came S sound owed (Some R) p' q' owed v) (went S sound owed (Some R) p' q' owed v)

  even_origin : (u : ℕ) → u < 48 → Even (S.origin * 48 + u)
  even_origin u n =
      rw (rank_place S sound (Some R) S.origin u sound.origin n, origin_unranked u)
      (came_place S sound owed (Some R) p' q' owed quiet S.origin u sound.origin n ∙ (no_origin u ∙ sym (went_origin S sound owed (Some R) p' q' owed quiet u n)))

  even_place : (y u : ℕ) → y < 32 → u < 48 → Even (y * 48 + u)
  even_place y u m n =
      ⊎_elim
      (λ e. subst (λ (x : ℕ). Even (x * 48 + u)) (sym e) (even_origin u n))
      (λ ne. rw (rank_place S sound (Some R) y u m n, came_place S sound owed (Some R) p' q' owed quiet y u m n, went_place S sound owed (Some R) p' q' owed quiet y u ne m n) (even y u ne))
      (cases_eq y S.origin)

  -- at a depot all comes in by the horizon
  pays : (d : ℕ) → d < length S.depots → total periods (q' d) ≡ owed d
  pays d l =
      total_upto periods S.horizon (q' d) (omega (arith, periods_is, sound.periods.1)) (λ u a b. rw (lt-leb u S.horizon a))
      ∙ (total_same (suc S.horizon) (q' d) (q d) (λ u a. cond-true _ (q d u) 0 (le-leb u S.horizon (omega arith)))
      ∙ splits.whole d l)

  even_owed : (d : ℕ) → d < 16 → Even (1537 + d)
  even_owed d m =
      rw (past_unranked S sound (Some R) (1537 + d) (omega arith) (λ e. omega arith))
      (came_owed S sound owed (Some R) p' q' owed d m
      ∙ (total_same (length S.depots) _ (λ e. cond (eqb e d) (owed e) 0) (λ e l. rw (pays e l))
      ∙ sym (went_owed S sound owed (Some R) p' q' owed d m)))

  even_all : (v : ℕ) → v < 1554 → v ≢ 1536 → Even v
  even_all v l ne =
      ⊎_elim (λ m. subst Even (div-add-mod' v 48) (even_place (v / 48) (v % 48) (div_below v 48 32 (omega arith) m) (mod_below v 48 (omega arith))))
      (λ m. ⊎_elim (λ e. subst Even (sym e) (omega (arith, went_all S sound owed (Some R) p' q' owed)))
      (λ last. let e : 1537 + (v - 1537) ≡ v = omega arith in subst Even e (even_owed (v - 1537) (omega arith)))
      (cases_eq v 1553))
      (cases_lt v 1536)

  same_ahead : (k : ℕ) → ahead S R p' q' k ≡ ahead S R p q k
  same_ahead k =
      total_same (length S.depots) _ _ (λ d l. total_same (suc S.horizon) _ _ (λ u m.
      let n : u ≤ S.horizon = omega arith in
      ap (λ x. cond (ltb (R.rank d u) k) x 0)
      (omega (arith, same_arriving (depot S d) u n, same_leaving (depot S d) u, cond-true _ (q d u) 0 (le-leb u S.horizon n)))))

  brings : (k : ℕ) → net.brought (day S owed (Some R)) (suc k) (listed S p' q' owed) ≡ all_owed S owed + ahead S R p q k
  brings k = omega (arith, brought_is S sound owed (Some R) p' q' owed quiet k, same_ahead k)

  pub carries : (f : List ℕ) × Carries S owed (Some R) p q f
  carries = (
    listed S p' q' owed,
    record {
      flow = record {
        fits = along_listed S (departure_arc S) (depot_arc S owed) (owed_arc owed) p' q' owed (λ a x. x ≤ a.capacity) fits;
        balanced = λ v l ne. even_all v (omega (arith, node_count_is)) ne;
      };
      serves = omega (arith, brings 0, no_extra S (Some R) p q);
      brings = brings;
    },
  )

pub plan_to_flow : PlanToFlow
plan_to_flow = carries
