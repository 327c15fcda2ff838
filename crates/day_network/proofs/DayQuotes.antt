-- What the day network says of plans: what cannot be served, best quotes with their smallest cuts, and releases.
use Rattle.std.proofs.Common.{◌≡◌, ℕ, zero, suc, ◌+◌, ◌-◌, ◌*◌, ◌/◌, ◌%◌, ◌≤◌, Bool, true, false, cond, eqb, ltb, leb, List, length, Some, None, Option, sym, refl, ◌∙◌, subst, ⊎_elim, arith}
use Rattle.std.proofs.lemmas.Bool.{both_ways, cases_lt, le-ltb, eqb-true, and_parts, or_cases}
use Rattle.flow.specs.Network as net
use Rattle.flow.specs.Network.{total, is_below}
use Rattle.timetable.proofs.Rows.{ahead_is}
use Rattle.flow.proofs.Duality.{weak_duality_lem, certificate, smallest_cut}
use Rattle.flow.proofs.Ranks.{brought_more}
use Rattle.flow.proofs.Existence.{best_exists, greatest_bottleneck}
use Rattle.timetable.specs.Plans.{Timetable, Sound, depot}
use Rattle.timetable.specs.Live.{is_live}
use Rattle.timetable.specs.Quotes.{Ranking, Cut, width, all_owed, SmallestFull, Best}
use Rattle.day_network.specs.DayNetwork.{depot_rank, place_rank, node_rank, day, plan_of, split_of, paid_of, nodes_of, board_of}
use Rattle.day_network.specs.DayTheory.{Unservable, ServableBrought, ServableExactly, FlowServes, figures_of, SmallestCuts, Quoted, FlowQuotes, Release, ReleaseFlow}
use Rattle.day_network.proofs.Totals.{total_le}
use Rattle.day_network.proofs.Brought.{node_count_is}
use Rattle.day_network.proofs.FlowPlan.{day_sound, no_extra, brings_paid, paid_le, planned, flow_delivers}
use Rattle.day_network.proofs.PlanFlow.{carries}
use Rattle.day_network.proofs.Cuts.{live_inside, nodes_place, board_cut_one, network_cut_one}

-- only all owed has a rank below 1
depot_later : (S : Timetable) (rank : ℕ → ℕ → ℕ) (n y t : ℕ) → is_below 1 (depot_rank S rank n y t) ≡ false
depot_later S rank zero y t = refl
depot_later S rank (suc n) y t = later (eqb (depot S n) y) (rank n t) _ (depot_later S rank n y t)
  where
    later : (b : Bool) (r : ℕ) (o : Option ℕ) → is_below 1 o ≡ false → is_below 1 (cond b (Some (suc r)) o) ≡ false
    later true r o e = le-ltb (suc r) 1 (omega arith)
    later false r o e = e

place_later : (S : Timetable) (R : Option Ranking) (y t : ℕ) → is_below 1 (place_rank S R y t) ≡ false
place_later S None y t = refl
place_later S (Some R) y t = upto (leb t S.horizon) (depot_rank S R.rank (length S.depots) y t) (depot_later S R.rank (length S.depots) y t)
  where
    upto : (b : Bool) (o : Option ℕ) → is_below 1 o ≡ false → is_below 1 (cond b o None) ≡ false
    upto true o e = e
    upto false o e = refl

owed_first : (S : Timetable) (R : Option Ranking) (v : ℕ) → is_below 1 (node_rank S R v) ≡ true → v ≡ 1553
owed_first S R v e = eqb-true v 1553 (first (eqb v 1553) (ltb v 1536) (place_rank S R (v / 48) (v % 48)) (place_later S R (v / 48) (v % 48)) e)
  where
    first : (b c : Bool) (o : Option ℕ) → is_below 1 o ≡ false → is_below 1 (cond b (Some 0) (cond c o None)) ≡ true → b ≡ true
    first true c o l e = refl
    first false true o l e = absurd (both_ways (is_below 1 o) l e)
    first false false o l e = e

-- so a cut for 1 is one for any ranking
any_ranking : (S : Timetable) (owed : ℕ → ℕ) (R Q : Option Ranking) (Z : ℕ → Bool) → net.Cut (day S owed R) 1 Z → net.Cut (day S owed Q) 1 Z
any_ranking S owed R Q Z cut =
    record { source = cut.source; apart = λ v l e. subst (λ (x : ℕ). Z x ≡ false) (sym (owed_first S Q v e)) (cut.apart 1553 (omega (arith, node_count_is)) refl) }

plain : Ranking
plain = record { ranks = 0; rank = λ d u. 0 }

pub unservable : Unservable
unservable S sound owed R f flow most less (p, q, plan, splits) =
    let b = greatest_bottleneck (day S owed R) (day_sound S sound owed R) 1 f flow most in
    let g = carries S sound owed plain p q plan splits in
    omega (arith, weak_duality_lem (day S owed (Some plain)) (day_sound S sound owed (Some plain)) 1 g.0 b.set g.1.flow (any_ranking S owed R (Some plain) b.set b.cut), g.1.serves, b.tight)

pub servable_brought : ServableBrought
servable_brought S sound owed R f can flow most =
    let upper = total_le (length S.depots) (paid_of S f) owed (paid_le S sound owed R f flow) in
    let whole = brings_paid S sound owed R f flow 0 in
    let none = no_extra S R (plan_of f) (split_of S f) in
    ⊎_elim (λ less. absurd (unservable S sound owed R f flow most less can)) (λ enough. omega arith) (cases_lt (net.brought (day S owed R) 1 f) (all_owed S owed))

pub servable_exactly : ServableExactly
servable_exactly S sound owed can =
    let b = best_exists (day S owed None) (day_sound S sound owed None) 1 in
    let e = servable_brought S sound owed None b.loads can b.flow (b.greatest 1 (omega arith)) in
    (plan_of b.loads, (planned S sound owed None b.loads b.flow e).feasible, flow_delivers S sound owed b.loads b.flow e)

pub flow_serves : FlowServes
flow_serves S sound owed R f flow e =
    let P = planned S sound owed R f flow e in (plan_of f, split_of S f, P.feasible, P.splits)

module _ (S : Timetable) (sound : Sound S) (owed : ℕ → ℕ) (R : Ranking) (f : List ℕ) (Z : ℕ → ℕ → Bool) (flow : net.Flow (day S owed (Some R)) f) (serves : net.brought (day S owed (Some R)) 1 f ≡ all_owed S owed) (cuts : SmallestCuts S owed R f Z) where
  abbrev N : net.Network
  N = day S owed (Some R)

  -- the figures up to k make up what the flow brings beside all owed
  brings : (k : ℕ) → net.brought N (suc k) f ≡ all_owed S owed + total k (figures_of S owed R f)
  brings zero = omega arith
  brings (suc k) = omega (arith, brings k, brought_more N (suc k) f)

  best : Best S owed R (figures_of S owed R f)
  best =
      let P = planned S sound owed (Some R) f flow serves in
      record {
        plan = plan_of f;
        split = split_of S f;
        feasible = P.feasible;
        serves = P.splits;
        reaches = λ r l. omega (arith, P.brings r, P.brings (suc r), brought_more N (suc r) f, ahead_is S R (plan_of f) (split_of S f) r, ahead_is S R (plan_of f) (split_of S f) (suc r));
        most = λ k l p q plan splits.
            let g = carries S sound owed R p q plan splits in
            omega (arith, (certificate N (day_sound S sound owed (Some R)) (suc k) f (Z k) flow (cuts k l).0 (cuts k l).1.0).greatest g.0 g.1.flow, g.1.brings k, brings k);
      }

  module _ (k : ℕ) (l : k ≤ R.ranks) where
    -- the set on the board is as wide as the set of nodes, and as what the flow brings
    board_full : width S owed (board_of S (Z k)) ≡ net.brought N (suc k) f
    board_full =
        let b = network_cut_one S sound owed R k (Z k) (cuts k l).0 in
        let back = board_cut_one S sound owed R k (board_of S (Z k)) b.0 in
        omega (arith, b.1, back.1, (certificate N (day_sound S sound owed (Some R)) (suc k) f (Z k) flow (cuts k l).0 (cuts k l).1.0).tight, weak_duality_lem N (day_sound S sound owed (Some R)) (suc k) f (nodes_of S (board_of S (Z k))) flow back.0)

    inside : (Y : ℕ → ℕ → Bool) → Cut S R k Y → width S owed Y ≡ width S owed (board_of S (Z k)) → (y t : ℕ) → board_of S (Z k) y t ≡ true → Y y t ≡ true
    inside Y cut e y t has =
        let both = and_parts (is_live S y t) _ has in
        let board = live_inside S sound y t both.0 in
        let nodes = board_cut_one S sound owed R k Y cut in
        let low = smallest_cut N (day_sound S sound owed (Some R)) (suc k) f (Z k) (nodes_of S Y) flow (cuts k l).1 nodes.0 (nodes.1 ∙ (e ∙ board_full)) in
        ⊎_elim
        (λ o. let q = eqb-true y S.origin o in subst (λ (x : ℕ). Y x t ≡ true) (sym q) (cut.origin t (subst (λ (x : ℕ). is_live S x t ≡ true) q both.0)))
        (λ z. sym (nodes_place S sound owed R k Y cut y t board.0 (omega (arith, sound.periods.1))) ∙ low (y * 48 + t) (omega (arith, node_count_is, sound.periods.1)) z)
        (or_cases (eqb y S.origin) _ both.1)

    smallest_full : SmallestFull S owed R k (figures_of S owed R f) (board_of S (Z k))
    smallest_full =
        record { cut = (network_cut_one S sound owed R k (Z k) (cuts k l).0).0; full = board_full ∙ brings k; inside = inside }

  pub quoted : Quoted S owed R f Z
  quoted = record { best = best; cuts = smallest_full }

pub flow_quotes : FlowQuotes
flow_quotes = quoted

-- of parts q at most b in all: what still fits of each
fitting : ℕ → (ℕ → ℕ) → ℕ → ℕ
fitting b q t = q t - (total (suc t) q - b)

fitting_total : (b : ℕ) (q : ℕ → ℕ) (n : ℕ) → (total n q ≤ b → total n (fitting b q) ≡ total n q) × (b ≤ total n q → total n (fitting b q) ≡ b)
unfolding fitting
fitting_total b q zero = (λ l. refl, λ l. omega arith)
fitting_total b q (suc n) =
    let h = fitting_total b q n in (
      λ l. omega (arith, h.0 (omega arith)),
      λ l. ⊎_elim (λ m. omega (arith, h.0 (omega arith))) (λ m. omega (arith, h.1 m)) (cases_lt (total n q) b),
    )

pub release : Release
unfolding fitting
release S owed less le (p, q, plan, splits) = (
  p,
  λ d. fitting (less d) (q d),
  plan,
  record {
    part = λ d u l m. omega (arith, splits.part d u l m);
    whole = λ d l. (fitting_total (less d) (q d) (suc S.horizon)).1 (omega (arith, le d l, splits.whole d l));
  },
)

pub release_flow : ReleaseFlow
release_flow S sound owed less le can R f = servable_brought S sound less R f (release S owed less le can)
