-- The ranks of the day network's nodes, and what a flow brings to them: all that is paid, and what stays at depot places.
use Rattle.std.proofs.Common.{◌≡◌, ℕ, zero, suc, ◌+◌, ◌-◌, ◌*◌, ◌<◌, ◌≤◌, Bool, true, false, cond, eqb, ltb, leb, ◌≢◌, length, Some, None, Option, sym, refl, ap, ◌∙◌, ap₂, ⊎_elim, arith}
use lib.Dec.{leb-suc-suc}
use Rattle.std.proofs.lemmas.Bool.{lt-ltb, le-ltb, le-leb, eq-eqb, ne_eqb, eqb-true, lt-leb, cases_eq, cases_Bool, cond-true}
use Rattle.flow.specs.Network as net
use Rattle.flow.specs.Network.{total, is_below}
use Rattle.flow.proofs.Sums.{total_same, total_zero}
use Rattle.timetable.specs.Plans.{Timetable, Sound, depot, is_depot, delivered}
use Rattle.timetable.proofs.Sums.{some_below_at, none_below, total_only, total_one, totals_swap}
use Rattle.timetable.proofs.Duality.{one_depot, no_depot}
use Rattle.timetable.specs.Quotes.{Ranking}
use Rattle.day_network.specs.DayNetwork.{node_count, listed, depot_rank, place_rank, node_rank, day, extra}
use Rattle.day_network.proofs.Totals.{total_split, total_rows, total_upto}
use Rattle.day_network.proofs.Arcs.{periods, periods_is, row_of, col_of}
use Rattle.day_network.proofs.Nodes.{Quiet, came, went, came_place, went_place, came_all, went_all}

pub node_count_is : node_count ≡ 1554
unfolding node_count
node_count_is = refl

-- the yards, kept shut as a bound of sums
yards : ℕ
yards = 32

yards_is : yards ≡ 32
unfolding yards
yards_is = refl

-- a sum over all nodes, if of those past the places only the last counts
by_places : (n rows cols rest : ℕ) → n ≡ rows * 48 + rest → rows ≡ 32 → cols ≡ 48 → rest ≡ 18 → (g : ℕ → ℕ) → ((v : ℕ) → 1536 ≤ v → v < 1553 → g v ≡ 0) → total n g ≡ total rows (λ y. total cols (λ u. g (y * 48 + u))) + g 1553
by_places n rows cols rest e r c s g z =
    let last : rows * 48 + 17 ≡ 1553 = omega arith in
    let end = total_only rest 17 (λ i. g (rows * 48 + i)) (omega arith) (λ v l ne. z (rows * 48 + v) (omega arith) (omega arith)) in
    total_split n (rows * 48) rest e g ∙ ap₂ ◌+◌ (total_rows cols c rows g) (end ∙ ap g last)

module _ (S : Timetable) (sound : Sound S) where
  -- each yard is the depot d, for one d, or no depot
  pub by_depot : (P : ℕ → Type 0) → ((d : ℕ) → d < length S.depots → P (depot S d)) → ((y : ℕ) → is_depot S y ≡ false → P y) → (y : ℕ) → P y
  by_depot P at none y =
      ⊎_elim (λ t. let f = some_below_at (length S.depots) (λ d. eqb (depot S d) y) t in rw (eqb-true _ _ f.2) at (at f.0 f.1))
      (none y) (cases_Bool (is_depot S y))

  module _ (rank : ℕ → ℕ → ℕ) (t : ℕ) where
    rank_at : (n d : ℕ) → n ≤ length S.depots → d < n → depot_rank S rank n (depot S d) t ≡ Some (suc (rank d t))
    rank_at zero d l m = absurd (omega arith)
    rank_at (suc n) d l m =
        ⊎_elim (λ e. cond-true (eqb (depot S n) (depot S d)) _ _ (eq-eqb _ _ (ap (depot S) (sym e))) ∙ ap (λ m. Some (suc (rank m t))) (sym e))
        (λ ne. rw (ne_eqb (depot S n) (depot S d) (λ e. ne (sym (sound.apart n d (omega arith) (omega arith) e)))) (rank_at n d (omega arith) (omega arith)))
        (cases_eq d n)

    rank_none : (n y : ℕ) → ((d : ℕ) → d < n → eqb (depot S d) y ≡ false) → depot_rank S rank n y t ≡ None
    rank_none zero y e = refl
    rank_none (suc n) y e = rw (e n (omega arith)) (rank_none n y (λ d l. e d (omega arith)))

  pub depot_ranked : (R : Ranking) (d u : ℕ) → d < length S.depots → u ≤ S.horizon → place_rank S (Some R) (depot S d) u ≡ Some (suc (R.rank d u))
  depot_ranked R d u l m = rw (le-leb u S.horizon m) (rank_at R.rank u (length S.depots) d (omega arith) l)

  pub late_unranked : (R : Option Ranking) (y u : ℕ) → S.horizon < u → place_rank S R y u ≡ None
  late_unranked None y u l = refl
  late_unranked (Some R) y u l = rw (lt-leb u S.horizon l)

  pub yard_unranked : (R : Option Ranking) (y u : ℕ) → is_depot S y ≡ false → place_rank S R y u ≡ None
  yard_unranked None y u e = refl
  yard_unranked (Some R) y u e =
      rw (rank_none R.rank u (length S.depots) y (none_below (length S.depots) (λ d. eqb (depot S d) y) e)) (none (leb u S.horizon))
    where
      none : (b : Bool) → cond {A = Option ℕ} b None None ≡ None
      none true = refl
      none false = refl

  pub rank_place : (R : Option Ranking) (y u : ℕ) → y < 32 → u < 48 → node_rank S R (y * 48 + u) ≡ place_rank S R y u
  rank_place R y u l m =
      rw (ne_eqb (y * 48 + u) 1553 (λ e. omega arith), lt-ltb (y * 48 + u) 1536 (omega arith), row_of y u m, col_of y u m)

  pub past_unranked : (R : Option Ranking) (v : ℕ) → 1536 ≤ v → v ≢ 1553 → node_rank S R v ≡ None
  past_unranked R v l ne = rw (ne_eqb v 1553 ne, le-ltb v 1536 l)

  module _ (owed : ℕ → ℕ) (R : Option Ranking) (p q : ℕ → ℕ → ℕ) (z : ℕ → ℕ) (quiet : Quiet S p) where
    -- what stays at a node, if it counts for k
    abbrev counts : ℕ → ℕ → ℕ
    counts k v = cond (is_below (suc k) (node_rank S R v)) (came S sound owed R p q z v - went S sound owed R p q z v) 0

    -- the same at a depot place
    abbrev stays : Option Ranking → ℕ → ℕ → ℕ → ℕ
    stays None k d u = 0
    stays (Some Q) k d u = cond (ltb (Q.rank d u) k) (delivered S p d u - q d u) 0

    unranked : (k y u : ℕ) → y < 32 → u < 48 → place_rank S R y u ≡ None → counts k (y * 48 + u) ≡ 0
    unranked k y u m n e = rw (rank_place R y u m n, e)

    stays_at : (k : ℕ) (Q : Option Ranking) (d u : ℕ) → d < length S.depots → depot S d < 32 → u ≤ S.horizon → R ≡ Q → counts k (depot S d * 48 + u) ≡ stays Q k d u
    stays_at k None d u l m n e = unranked k (depot S d) u m (omega (arith, sound.periods.1)) (rw e)
    stays_at k (Some Q) d u l m n e =
        let j : u < 48 = omega (arith, sound.periods.1) in
        let c = came_place S sound owed R p q z quiet (depot S d) u m j in
        let w = went_place S sound owed R p q z quiet (depot S d) u (sound.yards d l).1 m j in
        let r : node_rank S R (depot S d * 48 + u) ≡ Some (suc (Q.rank d u)) = rank_place R (depot S d) u m j ∙ rw e (depot_ranked Q d u l n) in
        rw (r, leb-suc-suc (suc (Q.rank d u)) k)
        (ap (λ x. cond (ltb (Q.rank d u) k) x 0) (omega (arith, c, w, one_depot S sound (λ e. q e u) d l)))

    -- what stays at all places of a yard
    yard_counts : (k y : ℕ) → y < 32 → total periods (λ u. counts k (y * 48 + u)) ≡ total (length S.depots) (λ d. cond (eqb (depot S d) y) (total (suc S.horizon) (stays R k d)) 0)
    yard_counts k =
        by_depot (λ y. y < 32 → total periods (λ u. counts k (y * 48 + u)) ≡ total (length S.depots) (λ d. cond (eqb (depot S d) y) (total (suc S.horizon) (stays R k d)) 0))
        (λ d l m.
        total_upto periods S.horizon _ (omega (arith, periods_is, sound.periods.1)) (λ u a b. unranked k (depot S d) u m (omega (arith, periods_is)) (late_unranked R (depot S d) u a))
        ∙ (total_same (suc S.horizon) _ _ (λ u a. stays_at k R d u l m (omega arith) refl)
        ∙ sym (one_depot S sound (λ e. total (suc S.horizon) (stays R k e)) d l)))
        (λ y e m.
        total_zero periods _ (λ u a. unranked k y u m (omega (arith, periods_is)) (yard_unranked R y u e))
        ∙ sym (no_depot S (λ d. total (suc S.horizon) (stays R k d)) y e))

    extra_is : (k : ℕ) (Q : Option Ranking) → total (length S.depots) (λ d. total (suc S.horizon) (stays Q k d)) ≡ extra S Q p q k
    extra_is k None = total_zero (length S.depots) _ (λ d l. total_zero (suc S.horizon) (λ u. 0) (λ u m. refl))
    extra_is k (Some Q) = refl

    pub brought_is : (k : ℕ) → net.brought (day S owed R) (suc k) (listed S p q z) ≡ extra S R p q k + total (length S.depots) z
    brought_is k =
        by_places node_count yards periods 18 (omega (arith, node_count_is, yards_is)) yards_is periods_is refl (counts k) (λ v a b. rw (past_unranked R v a (λ e. omega arith)))
        ∙ ap₂ ◌+◌
        (total_same yards _ _ (λ y l. yard_counts k y (omega (arith, yards_is)))
        ∙ (totals_swap yards (length S.depots) _
        ∙ (total_same (length S.depots) _ _ (λ d l. total_one yards (depot S d) (λ y. eqb (depot S d) y) (λ y. total (suc S.horizon) (stays R k d)) (omega (arith, yards_is, (sound.yards d l).0)) (eq-eqb _ _ refl) (λ y m e. sym (eqb-true _ _ e)))
        ∙ extra_is k R)))
        (rw (lt-ltb 0 (suc k) (omega arith)) (omega (arith, came_all S sound owed R p q z, went_all S sound owed R p q z)))
