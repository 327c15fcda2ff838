-- The arcs of the day network by their numbers: what is laid at each, and a sum over all of them as its three parts.
use Rattle.std.proofs.Common.{◌≡◌, ℕ, ◌+◌, ◌-◌, ◌*◌, ◌/◌, ◌%◌, ◌<◌, Bool, cond, List, length, get_or, sym, refl, ◌∙◌, ⊎_elim, arith}
use Rattle.std.proofs.lemmas.Nat.{div-mul-add, mod-mul-add, div-add-mod', div_below, mod_below}
use Rattle.std.proofs.lemmas.List.FromFn.{length-map-range_with_len, get_or-map-range_with_len, fill_by_all}
use Rattle.std.proofs.lemmas.Bool.{lt-ltb, le-ltb, cases_lt}
use Rattle.flow.specs.declared.Arc.{Arc}
use Rattle.flow.specs.Network.{total, spread, Along, wide, crosses}
use Rattle.flow.specs.Pushing.{no_arc}
use Rattle.flow.proofs.Sums.{total_same}
use Rattle.flow.proofs.Pushing.{along_at}
use Rattle.flow.proofs.Loops.{along_from}
use Rattle.timetable.specs.Plans.{Timetable}
use Rattle.day_network.specs.DayNetwork.{lane_arcs, place_arcs, arc_count, laid, listed, plan_of, split_of, paid_of}
use Rattle.day_network.proofs.Totals.{total_split, total_rows, spread_total, wide_spread}

-- the periods, kept shut as a bound of sums
pub periods : ℕ
periods = 48

pub periods_is : periods ≡ 48
unfolding periods
periods_is = refl

-- a row and a column of 48
pub row_of : (y t : ℕ) → t < 48 → (y * 48 + t) / 48 ≡ y
row_of y t l = div-mul-add y 48 t l

pub col_of : (y t : ℕ) → t < 48 → (y * 48 + t) % 48 ≡ t
col_of y t l = mod-mul-add y 48 t l

module _ (S : Timetable) where
  -- a sum of something for each departure, each depot place and each depot
  abbrev pub parts : (ℕ → ℕ → ℕ) → (ℕ → ℕ → ℕ) → (ℕ → ℕ) → ℕ
  parts a b c = total (length S.lanes) (λ l. total periods (a l)) + (total (length S.depots) (λ d. total periods (b d)) + total (length S.depots) c)

  pub total_parts : (g : ℕ → ℕ) → total (arc_count S) g ≡ parts (λ l t. g (l * 48 + t)) (λ d t. g (lane_arcs S + (d * 48 + t))) (λ d. g (place_arcs S + d))
  total_parts g =
      let a = total_split (arc_count S) (place_arcs S) (length S.depots) refl g in
      let b = total_split (place_arcs S) (lane_arcs S) (length S.depots * 48) refl g in
      let c = total_rows periods periods_is (length S.lanes) g in
      let d = total_rows periods periods_is (length S.depots) (λ i. g (lane_arcs S + i)) in
      omega arith

  -- what holds of the two things laid for each departure, depot place and depot
  pub record Each {X Y : Type 0} (P : X → Y → Type 0) (a : ℕ → ℕ → X) (b : ℕ → ℕ → X) (c : ℕ → X) (a' : ℕ → ℕ → Y) (b' : ℕ → ℕ → Y) (c' : ℕ → Y) : Type 0 where
    pub departures : (l t : ℕ) → l < length S.lanes → t < 48 → P (a l t) (a' l t)
    pub places : (d t : ℕ) → d < length S.depots → t < 48 → P (b d t) (b' d t)
    pub depots : (d : ℕ) → d < length S.depots → P (c d) (c' d)

  pub parts_same : (a b : ℕ → ℕ → ℕ) (c : ℕ → ℕ) (a' b' : ℕ → ℕ → ℕ) (c' : ℕ → ℕ) → Each ◌≡◌ a b c a' b' c' → parts a b c ≡ parts a' b' c'
  parts_same a b c a' b' c' e =
      let x = total_same (length S.lanes) (λ l. total periods (a l)) (λ l. total periods (a' l)) (λ l m. total_same periods (a l) (a' l) (λ t n. e.departures l t m (omega (arith, periods_is)))) in
      let y = total_same (length S.depots) (λ d. total periods (b d)) (λ d. total periods (b' d)) (λ d m. total_same periods (b d) (b' d) (λ t n. e.places d t m (omega (arith, periods_is)))) in
      let z = total_same (length S.depots) c c' e.depots in
      omega arith

  module _ {X : Type 0} (a : ℕ → ℕ → X) (b : ℕ → ℕ → X) (c : ℕ → X) where
    pub laid_departure : (l t : ℕ) → l < length S.lanes → t < 48 → laid S a b c (l * 48 + t) ≡ a l t
    laid_departure l t m n = rw (lt-ltb (l * 48 + t) (lane_arcs S) (omega arith), row_of l t n, col_of l t n)

    pub laid_place : (d t : ℕ) → d < length S.depots → t < 48 → laid S a b c (lane_arcs S + (d * 48 + t)) ≡ b d t
    laid_place d t m n =
        let i = lane_arcs S + (d * 48 + t) in
        let e : i - lane_arcs S ≡ d * 48 + t = omega arith in
        rw (le-ltb i (lane_arcs S) (omega arith), lt-ltb i (place_arcs S) (omega arith), e, row_of d t n, col_of d t n)

    pub laid_depot : (d : ℕ) → d < length S.depots → laid S a b c (place_arcs S + d) ≡ c d
    laid_depot d m =
        let i = place_arcs S + d in
        let e : i - place_arcs S ≡ d = omega arith in
        rw (le-ltb i (lane_arcs S) (omega arith), le-ltb i (place_arcs S) (omega arith), e)

    pub length_listed : length (listed S a b c) ≡ arc_count S
    length_listed = length-map-range_with_len (laid S a b c) 0 (arc_count S)

    pub listed_at : (i : ℕ) (x : X) → i < arc_count S → get_or (listed S a b c) i x ≡ laid S a b c i
    listed_at i x l = get_or-map-range_with_len (laid S a b c) 0 (arc_count S) i i x l (omega arith)

  -- each number of an arc is that of a departure, a depot place or a depot
  pub by_arc : (P : ℕ → Type 0) → ((l t : ℕ) → l < length S.lanes → t < 48 → P (l * 48 + t)) → ((d t : ℕ) → d < length S.depots → t < 48 → P (lane_arcs S + (d * 48 + t))) → ((d : ℕ) → d < length S.depots → P (place_arcs S + d)) → (i : ℕ) → i < arc_count S → P i
  by_arc P a b c i l =
      ⊎_elim (λ m. rw (← div-add-mod' i 48) (a (i / 48) (i % 48) (div_below i 48 _ (omega arith) m) (mod_below i 48 (omega arith))))
      (λ m. ⊎_elim
      (λ n. let j = i - lane_arcs S in
      let e : lane_arcs S + (j / 48 * 48 + j % 48) ≡ i = omega (arith, div-add-mod' j 48) in
      rw e at (b (j / 48) (j % 48) (div_below j 48 (length S.depots) (omega arith) (omega arith)) (mod_below j 48 (omega arith))))
      (λ n. let e : place_arcs S + (i - place_arcs S) ≡ i = omega arith in rw e at (c (i - place_arcs S) (omega arith)))
      (cases_lt i (place_arcs S)))
      (cases_lt i (lane_arcs S))

  along_lengths : {X Y : Type 0} (a b : ℕ → ℕ → X) (c : ℕ → X) (a' b' : ℕ → ℕ → Y) (c' : ℕ → Y) → length (listed S a' b' c') ≡ length (listed S a b c)
  along_lengths a b c a' b' c' = length_listed a' b' c' ∙ sym (length_listed a b c)

  module _ (A B : ℕ → ℕ → Arc) (C : ℕ → Arc) (p q : ℕ → ℕ → ℕ) (z : ℕ → ℕ) where
    pub along_listed : (P : Arc → ℕ → Type 0) → Each P A B C p q z → Along P (listed S A B C) (listed S p q z)
    along_listed P e =
        along_from P (listed S A B C) (listed S p q z) (along_lengths A B C p q z) (λ i l.
        let m : i < arc_count S = omega (arith, length_listed A B C) in
        rw (listed_at A B C i no_arc m, listed_at p q z i 0 m) (at i m))
      where
        at : (i : ℕ) → i < arc_count S → P (laid S A B C i) (laid S p q z i)
        at = by_arc (λ i. P (laid S A B C i) (laid S p q z i))
            (λ l t m n. rw (laid_departure A B C l t m n, laid_departure p q z l t m n) (e.departures l t m n))
            (λ d t m n. rw (laid_place A B C d t m n, laid_place p q z d t m n) (e.places d t m n))
            (λ d m. rw (laid_depot A B C d m, laid_depot p q z d m) (e.depots d m))

    pub each_along : (P : Arc → ℕ → Type 0) → Along P (listed S A B C) (listed S p q z) → Each P A B C p q z
    each_along P al =
        record {
          departures = λ l t m n. rw (laid_departure A B C l t m n, laid_departure p q z l t m n) at (at (l * 48 + t) (omega arith));
          places = λ d t m n. rw (laid_place A B C d t m n, laid_place p q z d t m n) at (at (lane_arcs S + (d * 48 + t)) (omega arith));
          depots = λ d m. rw (laid_depot A B C d m, laid_depot p q z d m) at (at (place_arcs S + d) (omega arith));
        }
      where
        at : (i : ℕ) → i < arc_count S → P (laid S A B C i) (laid S p q z i)
        at i m = rw (listed_at A B C i no_arc m, listed_at p q z i 0 m) at (along_at P (listed S A B C) (listed S p q z) al i (omega (arith, length_listed A B C)))

    pub spread_listed : (g : Arc → ℕ → ℕ) → spread g (listed S A B C) (listed S p q z) ≡ parts (λ l t. g (A l t) (p l t)) (λ d t. g (B d t) (q d t)) (λ d. g (C d) (z d))
    spread_listed g =
        spread_total g _ _ (arc_count S) (length_listed A B C) (length_listed p q z)
        ∙ (total_same (arc_count S) _ (λ i. g (laid S A B C i) (laid S p q z i)) (λ i m. rw (listed_at A B C i no_arc m, listed_at p q z i 0 m))
        ∙ (total_parts _
        ∙ parts_same _ _ _ _ _ _ (record {
          departures = λ l t m n. rw (laid_departure A B C l t m n, laid_departure p q z l t m n);
          places = λ d t m n. rw (laid_place A B C d t m n, laid_place p q z d t m n);
          depots = λ d m. rw (laid_depot A B C d m, laid_depot p q z d m);
        })))

  pub wide_listed : (A B : ℕ → ℕ → Arc) (C : ℕ → Arc) (X : ℕ → Bool) → wide X (listed S A B C) ≡ parts (λ l t. cond (crosses X (A l t)) (A l t).capacity 0) (λ d t. cond (crosses X (B d t)) (B d t).capacity 0) (λ d. cond (crosses X (C d)) (C d).capacity 0)
  wide_listed A B C X =
      wide_spread X _ (listed S (λ l t. 0) (λ d t. 0) (λ d. 0)) (along_lengths A B C (λ l t. 0) (λ d t. 0) (λ d. 0))
      ∙ spread_listed A B C (λ l t. 0) (λ d t. 0) (λ d. 0) (λ a x. cond (crosses X a) a.capacity 0)

  -- any loads are those of a plan, a split and payments
  pub listed_all : (f : List ℕ) → length f ≡ arc_count S → f ≡ listed S (plan_of f) (split_of S f) (paid_of S f)
  listed_all f e =
      let p = plan_of f in
      let q = split_of S f in
      let z = paid_of S f in
      fill_by_all (laid S p q z) f (arc_count S) 0 e
      (by_arc (λ i. get_or f i 0 ≡ laid S p q z i)
      (λ l t m n. sym (laid_departure p q z l t m n)) (λ d t m n. sym (laid_place p q z d t m n)) (λ d m. sym (laid_depot p q z d m)))
