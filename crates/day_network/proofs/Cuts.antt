-- Cuts of the board and cuts of the day network, one from the other.
use Rattle.std.proofs.Common.{◌≡◌, ℕ, zero, suc, ◌+◌, ◌-◌, ◌*◌, ◌/◌, ◌%◌, ◌<◌, ◌≤◌, Bool, true, false, cond, not, ◌&&◌, ◌||◌, eqb, ltb, leb, length, Some, None, Option, sym, refl, ◌∙◌, subst, ⊎_elim, arith}
use lib.Dec.{leb-suc-suc}
use Rattle.std.proofs.lemmas.Nat.{div-add-mod', div_below, mod_below}
use Rattle.std.proofs.lemmas.Bool.{both_ways, cases_lt, cases_eq, cases_Bool, lt-ltb, le-ltb, ltb-true, eq-eqb, ne_eqb, eqb-true, le-leb, lt-leb, and_right, and_parts, or_cases}
use Rattle.flow.specs.declared.Arc.{Arc}
use Rattle.flow.specs.Network as net
use Rattle.flow.specs.Network.{total, crosses, is_below}
use Rattle.flow.proofs.Sums.{total_same, total_add, total_zero, total_part, cond_none}
use Rattle.timetable.specs.Plans.{some_below}
use Rattle.timetable.specs.Plans.{Timetable, Sound, lane, depot, departs}
use Rattle.timetable.specs.Live.{comes, is_live, live_departure}
use Rattle.timetable.proofs.Sums.{some_below_from, some_below_at}
use Rattle.timetable.proofs.Live.{live_upto, live_departs}
use Rattle.timetable.proofs.Duality.{and_true}
use Rattle.timetable.specs.Quotes.{Ranking, Cut, outward, width}
use Rattle.day_network.specs.DayNetwork.{node, no_departure, departure_arc, depot_arc, owed_arc, place_rank, node_rank, day, nodes_of, board_of}
use Rattle.day_network.specs.DayTheory.{BoardCut, NetworkCut}
use Rattle.day_network.proofs.Totals.{total_le, total_upto}
use Rattle.day_network.proofs.Arcs.{periods, periods_is, row_of, col_of, wide_listed}
use Rattle.day_network.proofs.Nodes.{node_place, parts_totals}
use Rattle.day_network.proofs.Brought.{node_count_is, by_depot, depot_ranked, late_unranked, yard_unranked, rank_place, past_unranked}

-- a departure's width, if it is live
arc_crosses : (b : Bool) (a : Arc) (Z : ℕ → Bool) (c : Bool) → (b ≡ true → crosses Z a ≡ c) → cond (crosses Z (cond b a no_departure)) (cond b a no_departure).capacity 0 ≡ cond (b && c) a.capacity 0
arc_crosses true a Z c e = rw (e refl)
arc_crosses false a Z c e = idle (Z 1536)
  where
    idle : (z : Bool) → cond (z && not z) no_departure.capacity 0 ≡ 0
    idle true = refl
    idle false = refl

no_rank_below : (k : ℕ) (o : Option ℕ) → o ≡ None → is_below k o ≡ true → ⊥
no_rank_below k o q e = both_ways (is_below k o) (rw q) e

module _ (S : Timetable) (sound : Sound S) where
  -- live places lie within the board
  comes_to : (n y t : ℕ) → comes S n y t ≡ true → y < 32
  comes_to zero y t e = rw (eqb-true y S.origin e) sound.origin
  comes_to (suc n) y t e =
      ⊎_elim (λ h. rw (eqb-true y S.origin h) sound.origin)
      (λ h. let f = some_below_at (length S.lanes) (λ l. eqb (lane S l).to y && (leb (lane S l).transit t && comes S n (lane S l).from (t - (lane S l).transit))) h in
      let same = eqb-true (lane S f.0).to y (and_parts (eqb (lane S f.0).to y) _ f.2).0 in
      omega (arith, (sound.ends f.0 f.1).1))
      (or_cases (eqb y S.origin) _ e)

  pub live_inside : (y t : ℕ) → is_live S y t ≡ true → (y < 32) × (t ≤ S.horizon)
  live_inside y t e =
      let both = and_parts (comes S S.horizon y t) _ e in (comes_to S.horizon y t both.0, live_upto S y t e)

  -- The nodes in Z are just the places in X, as far as departures see them: then departures lead out of the one as out of the other.
  abbrev Agree : (ℕ → Bool) → (ℕ → ℕ → Bool) → Type 0
  Agree Z X = (y t : ℕ) → y < 32 → t < 48 → is_live S y t ≡ true → Z (node S y t) ≡ X y t

  abbrev leads_out : (ℕ → ℕ → Bool) → ℕ → ℕ → ℕ
  leads_out X l t = cond (live_departure S l t && (X (lane S l).from t && not (X (lane S l).to (t + (lane S l).transit)))) (S.capacity l t) 0

  lanes_wide : (Z : ℕ → Bool) (X : ℕ → ℕ → Bool) → Agree Z X → (l : ℕ) → l < length S.lanes → total periods (λ t. cond (crosses Z (departure_arc S l t)) (departure_arc S l t).capacity 0) ≡ total (suc S.horizon) (leads_out X l)
  lanes_wide Z X agree l m =
      total_same periods _ (leads_out X l) (λ t n. arc_crosses (live_departure S l t) _ Z _ (crossing t))
      ∙ total_upto periods S.horizon (leads_out X l) (omega (arith, periods_is, sound.periods.1)) (λ t a b. rw (dead t a))
    where
      dead : (t : ℕ) → S.horizon < t → departs S l t ≡ false
      dead t a = lt-leb _ _ (omega arith)

      crossing : (t : ℕ) → live_departure S l t ≡ true → (Z (node S (lane S l).from t) && not (Z (node S (lane S l).to (t + (lane S l).transit)))) ≡ (X (lane S l).from t && not (X (lane S l).to (t + (lane S l).transit)))
      crossing t e =
          let h = live_departs S l t e in
          let both = and_parts (is_live S (lane S l).from t) _ (and_parts (departs S l t) _ e).1 in
          rw (agree (lane S l).from t (sound.ends l m).0 (omega (arith, sound.periods.1)) both.0, agree (lane S l).to (t + (lane S l).transit) (sound.ends l m).1 (omega (arith, sound.periods.1)) both.1)

  -- the width of a set of nodes: of its departures, of its depot places, and of what is owed
  abbrev places_wide : (ℕ → ℕ) → (ℕ → Bool) → ℕ → ℕ
  places_wide owed Z d = total periods (λ t. cond (Z (depot S d * 48 + t) && not (Z (1537 + d))) (cond (leb t S.horizon) (owed d) 0) 0)

  abbrev owed_wide : (ℕ → ℕ) → (ℕ → Bool) → ℕ → ℕ
  owed_wide owed Z d = cond (Z (1537 + d) && not (Z 1553)) (owed d) 0

  width_is : (owed : ℕ → ℕ) (R : Option Ranking) (Z : ℕ → Bool) (X : ℕ → ℕ → Bool) → Agree Z X → net.width (day S owed R) Z ≡ outward S X + (total (length S.depots) (places_wide owed Z) + total (length S.depots) (owed_wide owed Z))
  width_is owed R Z X agree =
      wide_listed S (departure_arc S) (depot_arc S owed) (owed_arc owed) Z
      ∙ parts_totals S sound _ _ _ (λ l. total (suc S.horizon) (leads_out X l)) (places_wide owed Z) (owed_wide owed Z) (lanes_wide Z X agree) (λ d l. refl) (λ d l. refl)

  -- a place that a cut must not hold
  is_rank_below : (R : Ranking) (k d u : ℕ) → d < length S.depots → u ≤ S.horizon → is_below (suc k) (place_rank S (Some R) (depot S d) u) ≡ ltb (R.rank d u) k
  is_rank_below R k d u l m = rw (depot_ranked S sound R d u l m) (leb-suc-suc (suc (R.rank d u)) k)

  module _ (owed : ℕ → ℕ) (R : Ranking) (k : ℕ) (X : ℕ → ℕ → Bool) (cut : Cut S R k X) where
    pub nodes_place : (y u : ℕ) → y < 32 → u < 48 → nodes_of S X (y * 48 + u) ≡ X y u
    nodes_place y u l m = rw (lt-ltb (y * 48 + u) 1536 (omega arith), row_of y u m, col_of y u m)

    nodes_source : nodes_of S X 1536 ≡ true
    nodes_source = refl

    nodes_owed : (d : ℕ) → d < 16 → nodes_of S X (1537 + d) ≡ some_below (suc S.horizon) (X (depot S d))
    nodes_owed d l =
        let e : 1537 + d - 1537 ≡ d = omega arith in
        rw (le-ltb (1537 + d) 1536 (omega arith), ne_eqb (1537 + d) 1536 (λ h. omega arith), lt-ltb (1537 + d) 1553 (omega arith), e)

    nodes_agree : Agree (nodes_of S X) X
    nodes_agree y t l m live =
        ⊎_elim (λ e. rw (eq-eqb y S.origin e) (sym (subst (λ (x : ℕ). X x t ≡ true) (sym e) (cut.origin t (subst (λ (x : ℕ). is_live S x t ≡ true) e live)))))
        (λ ne. rw (node_place S sound y t ne) (nodes_place y t l m)) (cases_eq y S.origin)

    apart_place : (u : ℕ) → u < 48 → (y : ℕ) → y < 32 → is_below (suc k) (place_rank S (Some R) y u) ≡ true → X y u ≡ false
    apart_place u m =
        by_depot S sound (λ y. y < 32 → is_below (suc k) (place_rank S (Some R) y u) ≡ true → X y u ≡ false)
        (λ d l n e. ⊎_elim
        (λ late. absurd (no_rank_below (suc k) _ (late_unranked S sound (Some R) (depot S d) u late) e))
        (λ j. cut.apart d u l j (ltb-true _ _ (sym (is_rank_below R k d u l j) ∙ e)))
        (cases_lt S.horizon u))
        (λ y none n e. absurd (no_rank_below (suc k) _ (yard_unranked S sound (Some R) y u none) e))

    apart_node : (v : ℕ) → v < 1554 → is_below (suc k) (node_rank S (Some R) v) ≡ true → nodes_of S X v ≡ false
    apart_node v l e =
        ⊎_elim
        (λ m. subst (λ (x : ℕ). is_below (suc k) (node_rank S (Some R) x) ≡ true → nodes_of S X x ≡ false) (div-add-mod' v 48) (at (v / 48) (v % 48) (div_below v 48 32 (omega arith) m) (mod_below v 48 (omega arith))) e)
        (λ m. ⊎_elim (λ q. rw q) (λ ne. absurd (no_rank_below (suc k) _ (past_unranked S sound (Some R) v m ne) e)) (cases_eq v 1553))
        (cases_lt v 1536)
      where
        at : (y u : ℕ) → y < 32 → u < 48 → is_below (suc k) (node_rank S (Some R) (y * 48 + u)) ≡ true → nodes_of S X (y * 48 + u) ≡ false
        at y u l m = rw (rank_place S sound (Some R) y u l m, nodes_place y u l m) (apart_place u m y l)

    -- what is owed at a depot is paid for once: no depot place leads out of the cut
    no_place_wide : (d : ℕ) → d < length S.depots → places_wide owed (nodes_of S X) d ≡ 0
    no_place_wide d l =
        total_zero periods _ (λ t m.
        let n : t < 48 = omega (arith, periods_is) in
        rw (nodes_place (depot S d) t (sound.yards d l).0 n, nodes_owed d (omega (arith, sound.few_depots)))
        (⊎_elim (λ late. rw (lt-leb t S.horizon late) (cond_none _))
        (λ j. covered (X (depot S d) t) (some_below (suc S.horizon) (X (depot S d))) _ (some_below_from (suc S.horizon) (X (depot S d)) t (omega arith)))
        (cases_lt S.horizon t)))
      where
        covered : (a b : Bool) (x : ℕ) → (a ≡ true → b ≡ true) → cond (a && not b) x 0 ≡ 0
        covered true b x h = rw (h refl)
        covered false b x h = refl

    pub board_cut_one : net.Cut (day S owed (Some R)) (suc k) (nodes_of S X) × (net.width (day S owed (Some R)) (nodes_of S X) ≡ width S owed X)
    board_cut_one = (
      record { source = nodes_source; apart = λ v l e. apart_node v (omega (arith, node_count_is)) e },
      width_is owed (Some R) (nodes_of S X) X nodes_agree
          ∙ omega (arith, total_zero (length S.depots) (places_wide owed (nodes_of S X)) no_place_wide, owed_same),
    )
      where
        owed_same : total (length S.depots) (owed_wide owed (nodes_of S X)) ≡ total (length S.depots) (λ d. cond (some_below (suc S.horizon) (X (depot S d))) (owed d) 0)
        owed_same = total_same (length S.depots) _ _ (λ d l. rw (nodes_owed d (omega (arith, sound.few_depots)), and_true (some_below (suc S.horizon) (X (depot S d)))))

  module _ (owed : ℕ → ℕ) (R : Ranking) (k : ℕ) (Z : ℕ → Bool) (cut : net.Cut (day S owed (Some R)) (suc k) Z) where
    board_live : (y t : ℕ) → board_of S Z y t ≡ true → is_live S y t ≡ true
    board_live y t e = (and_parts _ (eqb y S.origin || Z (y * 48 + t)) e).0

    board_agree : Agree Z (board_of S Z)
    board_agree y t l m live =
        ⊎_elim (λ e. rw (live, eq-eqb y S.origin e) cut.source) (λ ne. rw (live, ne_eqb y S.origin ne)) (cases_eq y S.origin)

    -- at a depot the board holds what Z holds, of live places
    board_depot : (d t : ℕ) → d < length S.depots → board_of S Z (depot S d) t ≡ (is_live S (depot S d) t && Z (depot S d * 48 + t))
    board_depot d t l = rw (ne_eqb (depot S d) S.origin (sound.yards d l).1)

    board_apart : (d t : ℕ) → d < length S.depots → t ≤ S.horizon → R.rank d t < k → board_of S Z (depot S d) t ≡ false
    board_apart d t l m r =
        let y = (sound.yards d l).0 in
        let n : t < 48 = omega (arith, sound.periods.1) in
        let below : is_below (suc k) (node_rank S (Some R) (depot S d * 48 + t)) ≡ true = rw (rank_place S sound (Some R) (depot S d) t y n) (is_rank_below R k d t l m ∙ lt-ltb _ _ r) in
        board_depot d t l ∙ and_right (is_live S (depot S d) t) _ (cut.apart (depot S d * 48 + t) (omega (arith, node_count_is)) below)

    -- what is owed at a depot with a place in the board is paid for by an arc that leads out of Z
    pays_one : (d t : ℕ) → d < length S.depots → t ≤ S.horizon → board_of S Z (depot S d) t ≡ true → owed d ≤ places_wide owed Z d + owed_wide owed Z d
    pays_one d t l m e =
        let z = (and_parts (is_live S (depot S d) t) _ (sym (board_depot d t l) ∙ e)).1 in
        let all = cut.apart 1553 (omega (arith, node_count_is)) (lt-ltb 0 (suc k) (omega arith)) in
        let part = total_part periods (λ t. cond (Z (depot S d * 48 + t) && not (Z (1537 + d))) (cond (leb t S.horizon) (owed d) 0) 0) t (omega (arith, periods_is, sound.periods.1)) in
        ⊎_elim (λ (in-it : Z (1537 + d) ≡ true). let w : owed_wide owed Z d ≡ owed d = rw (in-it, all) in omega arith)
        (λ (out : Z (1537 + d) ≡ false). let w : cond (Z (depot S d * 48 + t) && not (Z (1537 + d))) (cond (leb t S.horizon) (owed d) 0) 0 ≡ owed d = rw (z, out, le-leb t S.horizon m) in omega arith)
        (cases_Bool (Z (1537 + d)))

    pays : (d : ℕ) → d < length S.depots → cond (some_below (suc S.horizon) (board_of S Z (depot S d))) (owed d) 0 ≤ places_wide owed Z d + owed_wide owed Z d
    pays d l = if_any (some_below (suc S.horizon) (board_of S Z (depot S d))) (λ e.
        let f = some_below_at (suc S.horizon) (board_of S Z (depot S d)) e in pays_one d f.0 l (omega (arith, f.1)) f.2)
      where
        if_any : (b : Bool) → (b ≡ true → owed d ≤ places_wide owed Z d + owed_wide owed Z d) → cond b (owed d) 0 ≤ places_wide owed Z d + owed_wide owed Z d
        if_any true h = h refl
        if_any false h = omega arith

    pub network_cut_one : Cut S R k (board_of S Z) × (width S owed (board_of S Z) ≤ net.width (day S owed (Some R)) Z)
    network_cut_one = (
      record {
        live = board_live;
        origin = λ t e. rw (e, eq-eqb S.origin S.origin refl);
        apart = board_apart;
      },
      omega (
        arith,
        width_is owed (Some R) Z (board_of S Z) board_agree,
        total_le (length S.depots) (λ d. cond (some_below (suc S.horizon) (board_of S Z (depot S d))) (owed d) 0) (λ d. places_wide owed Z d + owed_wide owed Z d) pays,
        total_add (length S.depots) (places_wide owed Z) (owed_wide owed Z),
      ),
    )

pub board_cut : BoardCut
board_cut = board_cut_one

pub network_cut : NetworkCut
network_cut = network_cut_one
