-- A flow on the day network that brings all owed is a feasible plan with its split.
use Rattle.std.proofs.Common.{◌≡◌, ℕ, suc, ◌+◌, ◌*◌, ◌<◌, ◌≤◌, Bool, true, false, cond, eqb, ◌≢◌, List, length, Some, None, Option, sym, refl, ap, ◌∙◌, subst, ⊎_elim, arith}
use Rattle.std.proofs.ByRecursion.{All-from_get_or}
use Rattle.std.proofs.lemmas.Bool.{cases_lt, eq-eqb, ne_eqb, eqb-true, leb-true, lt-leb}
use Rattle.flow.specs.declared.Arc.{Arc}
use Rattle.flow.specs.Network as net
use Rattle.flow.specs.Network.{total, Balanced}
use Rattle.flow.specs.Pushing.{no_arc}
use Rattle.flow.proofs.Duality.{balanced_le}
use Rattle.flow.proofs.Pushing.{along_length}
use Rattle.timetable.specs.Plans.{Timetable, Sound, lane, depot, arriving, leaving, delivered, Feasible, Split}
use Rattle.timetable.specs.Live.{live_departure}
use Rattle.flow.proofs.Sums.{total_same, total_zero}
use Rattle.timetable.proofs.Duality.{one_depot, no_depot}
use Rattle.timetable.proofs.Sums.{some_below_at, total_one}
use Rattle.timetable.proofs.Rows.{ahead_is}
use Rattle.timetable.specs.Quotes.{Ranking, all_owed}
use Rattle.day_network.specs.DayNetwork.{node_count, node, arc_count, lane_arcs, place_arcs, laid, listed, no_departure, departure_arc, depot_arc, owed_arc, place_rank, day, plan_of, split_of, paid_of, extra}
use Rattle.day_network.specs.DayTheory.{DaySound, Planned, FlowToPlan, FlowDelivers}
use Rattle.day_network.proofs.Totals.{total_even, total_upto}
use Rattle.day_network.proofs.Arcs.{periods, periods_is, Each, each_along, by_arc, laid_departure, laid_place, laid_depot, length_listed, listed_at, listed_all}
use Rattle.day_network.proofs.Nodes.{Quiet, ends_low, came_place, went_place, came_owed, went_owed}
use Rattle.day_network.proofs.Brought.{node_count_is, yard_unranked, rank_place, past_unranked, brought_is}

pub day_sound : DaySound
day_sound S sound owed R =
    record {
      within = omega (arith, node_count_is);
      ends = All-from_get_or In es no_arc (λ i l.
          let m : i < arc_count S = omega (arith, length_listed S A B C) in
          rw (listed_at S A B C i no_arc m) (by_arc S (λ i. In (laid S A B C i)) departure place owed_one i m));
      unranked = refl;
    }
  where
    A : ℕ → ℕ → Arc
    A = departure_arc S

    B : ℕ → ℕ → Arc
    B = depot_arc S owed

    C : ℕ → Arc
    C = owed_arc owed

    es : List Arc
    es = listed S A B C

    In : Arc → Type 0
    In a = (a.tail < node_count) × (a.head < node_count)

    departure : (l t : ℕ) → l < length S.lanes → t < 48 → In (laid S A B C (l * 48 + t))
    departure l t m n = rw (laid_departure S A B C l t m n) (omega (arith, ends_low S sound l t m n, node_count_is))

    place : (d t : ℕ) → d < length S.depots → t < 48 → In (laid S A B C (lane_arcs S + (d * 48 + t)))
    place d t m n = rw (laid_place S A B C d t m n) (omega (arith, (sound.yards d m).0, sound.few_depots, node_count_is))

    owed_one : (d : ℕ) → d < length S.depots → In (laid S A B C (place_arcs S + d))
    owed_one d m = rw (laid_depot S A B C d m) (omega (arith, sound.few_depots, node_count_is))

fits_live : (b : Bool) (a : Arc) (x : ℕ) → x ≤ (cond b a no_departure).capacity → x ≤ a.capacity
fits_live true a x l = l
fits_live false a x l = omega arith

module _ (S : Timetable) (sound : Sound S) (owed : ℕ → ℕ) (R : Option Ranking) (p q : ℕ → ℕ → ℕ) (z : ℕ → ℕ) (flow : net.Flow (day S owed R) (listed S p q z)) where
  fits : Each S (λ a x. x ≤ a.capacity) (departure_arc S) (depot_arc S owed) (owed_arc owed) p q z
  fits = each_along S (departure_arc S) (depot_arc S owed) (owed_arc owed) p q z _ flow.fits

  pub quiet : Quiet S p
  quiet l t m n e = let h = fits.departures l t m n in omega (arith, rw e at h)

  -- what comes to a place but stays there at most
  even : (y u : ℕ) → y ≢ S.origin → y < 32 → u < 48 → Balanced (place_rank S R y u) (arriving S p y u) (leaving S p y u + total (length S.depots) (λ d. cond (eqb (depot S d) y) (q d u) 0))
  even y u ne m n =
      rw (rank_place S sound R y u m n, came_place S sound owed R p q z quiet y u m n, went_place S sound owed R p q z quiet y u ne m n)
      at (flow.balanced (y * 48 + u) (omega (arith, node_count_is)) (λ e. omega arith))

  pub depot_even : (d u : ℕ) → d < length S.depots → u < 48 → Balanced (place_rank S R (depot S d) u) (arriving S p (depot S d) u) (leaving S p (depot S d) u + q d u)
  depot_even d u l m = rw (one_depot S sound (λ e. q e u) d l) at (even (depot S d) u (sound.yards d l).1 (sound.yards d l).0 m)

  -- what a depot is paid comes from its places
  paid : (d : ℕ) → d < length S.depots → total periods (q d) ≡ z d
  paid d l =
      let m : d < 16 = omega (arith, sound.few_depots) in
      let one = λ (g : ℕ → ℕ). total_one (length S.depots) d (λ e. eqb e d) g l (eq-eqb d d refl) (λ e n t. eqb-true e d t) in
      let b = rw (past_unranked S sound R (1537 + d) (omega arith) (λ e. omega arith)) at (flow.balanced (1537 + d) (omega (arith, node_count_is)) (λ e. omega arith)) in
      sym (one (λ e. total periods (q e))) ∙ (sym (came_owed S sound owed R p q z d m) ∙ (b ∙ (went_owed S sound owed R p q z d m ∙ one z)))

  no_yard : (y u : ℕ) → 32 ≤ y → arriving S p y u ≡ leaving S p y u
  no_yard y u l =
      total_zero (length S.lanes) _ (λ v m. rw (ne_eqb (lane S v).to y (λ e. omega (arith, (sound.ends v m).1))))
      ∙ sym (total_zero (length S.lanes) _ (λ v m. rw (ne_eqb (lane S v).from y (λ e. omega (arith, (sound.ends v m).0)))))

  pub feasible : Feasible S p
  feasible =
      record {
        fits = λ l t m e.
            let n : t < 48 = omega (arith, leb-true _ _ e, sound.periods.1) in
            fits_live (live_departure S l t) (record { tail = node S (lane S l).from t; head = node S (lane S l).to (t + (lane S l).transit); capacity = S.capacity l t }) (p l t) (fits.departures l t m n);
        passes = λ y u l ne e. ⊎_elim
            (λ m. let h = rw (yard_unranked S sound R y u e) at (even y u ne m (omega (arith, sound.periods.1))) in
            omega (arith, h, no_depot S (λ d. q d u) y e))
            (no_yard y u) (cases_lt y 32);
        keeps = λ y u l e.
            let f = some_below_at (length S.depots) (λ d. eqb (depot S d) y) e in
            let h = balanced_le _ _ _ (depot_even f.0 u f.1 (omega (arith, sound.periods.1))) in
            rw (sym (eqb-true _ _ f.2)) (omega (arith, h));
      }

  module _ (serves : total (length S.depots) z ≡ total (length S.depots) owed) where
    pub split : Split S owed p q
    split =
        record {
          part = λ d u l m. omega (arith, balanced_le _ _ _ (depot_even d u l (omega (arith, sound.periods.1))));
          whole = λ d l.
              sym (total_upto periods S.horizon (q d) (omega (arith, periods_is, sound.periods.1)) (λ u a b.
              let h = fits.places d u l (omega (arith, periods_is)) in omega (arith, rw (lt-leb u S.horizon a) at h)))
              ∙ (paid d l ∙ total_even (length S.depots) z owed fits.depots serves d l);
        }

pub no_extra : (S : Timetable) (R : Option Ranking) (p q : ℕ → ℕ → ℕ) → extra S R p q 0 ≡ 0
no_extra S None p q = refl
no_extra S (Some R) p q = ahead_is S R p q 0

module _ (S : Timetable) (sound : Sound S) (owed : ℕ → ℕ) (R : Option Ranking) (f : List ℕ) (flow : net.Flow (day S owed R) f) where
  as_listed : f ≡ listed S (plan_of f) (split_of S f) (paid_of S f)
  as_listed = listed_all S f (along_length _ _ f flow.fits ∙ length_listed S (departure_arc S) (depot_arc S owed) (owed_arc owed))

  pub listed_flow : net.Flow (day S owed R) (listed S (plan_of f) (split_of S f) (paid_of S f))
  listed_flow = subst (λ (g : List ℕ). net.Flow (day S owed R) g) as_listed flow

  -- what the flow brings, by what it pays
  pub brings_paid : (k : ℕ) → net.brought (day S owed R) (suc k) f ≡ extra S R (plan_of f) (split_of S f) k + total (length S.depots) (paid_of S f)
  brings_paid k =
      ap (λ (g : List ℕ). net.brought (day S owed R) (suc k) g) as_listed
      ∙ brought_is S sound owed R (plan_of f) (split_of S f) (paid_of S f) (quiet S sound owed R (plan_of f) (split_of S f) (paid_of S f) listed_flow) k

  pub paid_le : (d : ℕ) → d < length S.depots → paid_of S f d ≤ owed d
  paid_le = (fits S sound owed R (plan_of f) (split_of S f) (paid_of S f) listed_flow).depots

  module _ (e : net.brought (day S owed R) 1 f ≡ all_owed S owed) where
    all_paid : total (length S.depots) (paid_of S f) ≡ total (length S.depots) owed
    all_paid = omega (arith, brings_paid 0, no_extra S R (plan_of f) (split_of S f))

    pub planned : Planned S owed R f
    planned =
        record {
          feasible = feasible S sound owed R (plan_of f) (split_of S f) (paid_of S f) listed_flow;
          splits = split S sound owed R (plan_of f) (split_of S f) (paid_of S f) listed_flow all_paid;
          brings = λ k. omega (arith, brings_paid k, all_paid);
        }

pub flow_to_plan : FlowToPlan
flow_to_plan = planned

-- without ranks nothing stays at a depot place
pub flow_delivers : FlowDelivers
flow_delivers S sound owed f flow e d l =
    total_same (suc S.horizon) (delivered S (plan_of f) d) (split_of S f d)
    (λ u m. omega (arith, depot_even S sound owed None (plan_of f) (split_of S f) (paid_of S f) (listed_flow S sound owed None f flow) d u l (omega (arith, sound.periods.1))))
    ∙ (planned S sound owed None f flow e).splits.whole d l
