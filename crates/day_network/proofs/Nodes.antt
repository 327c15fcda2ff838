-- What arrives at each node of the day network and what leaves it, in the words of plans.
use Rattle.std.proofs.Common.{◌≡◌, ℕ, ◌+◌, ◌-◌, ◌*◌, ◌<◌, ◌≤◌, Bool, true, false, cond, ◌&&◌, eqb, leb, ◌≢◌, length, Option, sym, refl, ◌∙◌, ⊎_elim, arith}
use Rattle.std.proofs.lemmas.Bool.{eq-eqb, ne_eqb, eqb-true, cases_eq, and_left, cond_both}
use Rattle.std.proofs.lemmas.Bool.Decides.{nat_tests}
use Rattle.flow.specs.declared.Arc.{Arc}
use Rattle.flow.specs.Network as net
use Rattle.flow.specs.Network.{total}
use Rattle.flow.proofs.Sums.{total_same, total_zero, cond_none}
use Rattle.timetable.specs.Plans.{Timetable, Sound, lane, depot, departs, arriving, leaving}
use Rattle.timetable.specs.Live.{live_departure}
use Rattle.timetable.proofs.Sums.{total_cond, total_one}
use Rattle.timetable.proofs.Live.{live_departs}
use Rattle.timetable.specs.Quotes.{Ranking}
use Rattle.day_network.specs.DayNetwork.{node, no_departure, departure_arc, depot_arc, owed_arc, listed, day}
use Rattle.day_network.proofs.Totals.{total_none}
use Rattle.day_network.proofs.Arcs.{periods, periods_is, parts, spread_listed}

-- two places are one node where the yards and the periods are the same
pub eqb_place : (y t z u : ℕ) → t < 48 → u < 48 → eqb (y * 48 + t) (z * 48 + u) ≡ (eqb y z && eqb t u)
eqb_place y t z u l m = grind (arith, nat_tests)

-- of the periods one is u
pub pick_period : (b : Bool) (u : ℕ) (g : ℕ → ℕ) → u < 48 → total periods (λ t. cond (b && eqb t u) (g t) 0) ≡ cond b (g u) 0
pick_period true u g l = total_one periods u (λ t. eqb t u) g (omega (arith, periods_is)) (eq-eqb u u refl) (λ v m e. eqb-true v u e)
pick_period false u g l = total_none periods (λ t. false) g (λ t m. refl)

-- an arc that counts nothing where it is not live
pub arc_test : (b : Bool) (a : Arc) (end : Arc → ℕ) (v x : ℕ) (c : Bool) → (b ≡ true → eqb (end a) v ≡ c) → (b ≡ false → x ≡ 0) → cond (eqb (end (cond b a no_departure)) v) x 0 ≡ cond c x 0
arc_test true a end v x c live dead = rw (live refl)
arc_test false a end v x c live dead = rw (dead refl) (cond_none _ ∙ sym (cond_none c))

-- a further test that only loads of 0 fail
guard : (b c : Bool) (x : ℕ) → (c ≡ false → x ≡ 0) → cond b x 0 ≡ cond (b && c) x 0
guard true true x h = refl
guard true false x h = h refl
guard false c x h = refl

same_node : (e d : ℕ) → eqb (1537 + e) (1537 + d) ≡ eqb e d
same_node e d = grind (arith, nat_tests)

-- no load on departures that are not live
abbrev pub Quiet : Timetable → (ℕ → ℕ → ℕ) → Type 0
Quiet S p = (l t : ℕ) → l < length S.lanes → t < 48 → live_departure S l t ≡ false → p l t ≡ 0

module _ (S : Timetable) (sound : Sound S) where
  pub node_place : (y t : ℕ) → y ≢ S.origin → node S y t ≡ y * 48 + t
  node_place y t ne = rw (ne_eqb y S.origin ne)

  node_low : (y t : ℕ) → y < 32 → t < 48 → node S y t ≤ 1536
  node_low y t l m = cond_both (eqb y S.origin) 1536 (y * 48 + t) (λ v. v ≤ 1536) (λ e. omega arith) (λ e. omega arith)

  -- a departure leads from the source or a place to one of these
  pub ends_low : (l t : ℕ) → l < length S.lanes → t < 48 → ((departure_arc S l t).tail ≤ 1536) × ((departure_arc S l t).head ≤ 1536)
  ends_low l t m n =
      cond_both (live_departure S l t) _ no_departure (λ a. (a.tail ≤ 1536) × (a.head ≤ 1536))
      (λ e. let h = live_departs S l t e in
      (node_low _ t (sound.ends l m).0 n, node_low _ (t + (lane S l).transit) (sound.ends l m).1 (omega (arith, sound.periods.1))))
      (λ e. (omega arith, omega arith))

  -- from the sums over the periods the sum over all
  pub parts_totals : (a b : ℕ → ℕ → ℕ) (c : ℕ → ℕ) (x y w : ℕ → ℕ) → ((l : ℕ) → l < length S.lanes → total periods (a l) ≡ x l) → ((d : ℕ) → d < length S.depots → total periods (b d) ≡ y d) → ((d : ℕ) → d < length S.depots → c d ≡ w d) → parts S a b c ≡ total (length S.lanes) x + (total (length S.depots) y + total (length S.depots) w)
  parts_totals a b c x y w e f g =
      let i = total_same (length S.lanes) (λ l. total periods (a l)) x e in
      let j = total_same (length S.depots) (λ d. total periods (b d)) y f in
      let k = total_same (length S.depots) c w g in
      omega (arith)

  pub no_total : (n : ℕ) → total n (λ d. 0) ≡ 0
  no_total n = total_zero n (λ d. 0) (λ d l. refl)

  -- where no departure counts
  parts_depots : (a b : ℕ → ℕ → ℕ) (c : ℕ → ℕ) (y w : ℕ → ℕ) → ((l : ℕ) → l < length S.lanes → total periods (a l) ≡ 0) → ((d : ℕ) → d < length S.depots → total periods (b d) ≡ y d) → ((d : ℕ) → d < length S.depots → c d ≡ w d) → parts S a b c ≡ total (length S.depots) y + total (length S.depots) w
  parts_depots a b c y w e f g = parts_totals a b c (λ l. 0) y w e f g ∙ omega (arith, total_zero (length S.lanes) (λ l. 0) (λ l m. refl))

  pub head_test : (l t y u : ℕ) → l < length S.lanes → live_departure S l t ≡ true → u < 48 → eqb (node S (lane S l).to (t + (lane S l).transit)) (y * 48 + u) ≡ ((eqb (lane S l).to y && leb (lane S l).transit u) && eqb t (u - (lane S l).transit))
  head_test l t y u m e n =
      rw (node_place (lane S l).to (t + (lane S l).transit) (sound.outward l m).0)
      (eqb_place _ _ y u (omega (arith, live_departs S l t e, sound.periods.1)) n ∙ shift (eqb (lane S l).to y) t (lane S l).transit u)
    where
      shift : (b : Bool) (t r u : ℕ) → (b && eqb (t + r) u) ≡ ((b && leb r u) && eqb t (u - r))
      shift true t r u = grind (arith, nat_tests)
      shift false t r u = refl

  pub tail_test : (f t y u : ℕ) → y ≢ S.origin → y < 32 → t < 48 → u < 48 → eqb (node S f t) (y * 48 + u) ≡ (eqb f y && eqb t u)
  tail_test f t y u ne l m n =
      ⊎_elim (λ e. rw (eq-eqb f S.origin e, ne_eqb f y (λ q. ne (sym q ∙ e)), ne_eqb 1536 (y * 48 + u) (λ q. omega arith)))
      (λ o. rw (node_place f t o) (eqb_place f t y u m n)) (cases_eq f S.origin)

  pub origin_test : (f t u : ℕ) → t < 48 → u < 48 → eqb (node S f t) (S.origin * 48 + u) ≡ false
  origin_test f t u m n =
      ⊎_elim (λ e. rw (eq-eqb f S.origin e) (ne_eqb 1536 (S.origin * 48 + u) (λ q. omega (arith, sound.origin))))
      (λ o. rw (node_place f t o) (ne_eqb (f * 48 + t) (S.origin * 48 + u) (λ q. o (omega arith)))) (cases_eq f S.origin)

  module _ (owed : ℕ → ℕ) (R : Option Ranking) (p q : ℕ → ℕ → ℕ) (z : ℕ → ℕ) where
    abbrev pub came : ℕ → ℕ
    came v = net.arriving (day S owed R) (listed S p q z) v

    abbrev pub went : ℕ → ℕ
    went v = net.leaving (day S owed R) (listed S p q z) v

    -- what the arcs with one end at v carry, in its three parts
    end_parts : (end : Arc → ℕ) (v : ℕ) → net.carried (λ a. eqb (end a) v) (day S owed R).arcs (listed S p q z) ≡ parts S (λ l t. cond (eqb (end (departure_arc S l t)) v) (p l t) 0) (λ d t. cond (eqb (end (depot_arc S owed d t)) v) (q d t) 0) (λ d. cond (eqb (end (owed_arc owed d)) v) (z d) 0)
    end_parts end v = spread_listed S (departure_arc S) (depot_arc S owed) (owed_arc owed) p q z (λ a x. cond (eqb (end a) v) x 0)

    -- no departure leads to or from a node past the source
    past_ends : (end : Arc → ℕ) → ((l t : ℕ) → l < length S.lanes → t < 48 → end (departure_arc S l t) ≤ 1536) → (v : ℕ) → 1536 < v → (l : ℕ) → l < length S.lanes → total periods (λ t. cond (eqb (end (departure_arc S l t)) v) (p l t) 0) ≡ 0
    past_ends end low v m l n = total_none periods (λ t. eqb (end (departure_arc S l t)) v) (p l) (λ t k. ne_eqb (end (departure_arc S l t)) v (λ e. omega (arith, low l t n (omega (arith, periods_is)))))

    past_heads : (v : ℕ) → 1536 < v → (l : ℕ) → l < length S.lanes → total periods (λ t. cond (eqb (departure_arc S l t).head v) (p l t) 0) ≡ 0
    past_heads = past_ends (λ a. a.head) (λ l t m n. (ends_low l t m n).1)

    past_tails : (v : ℕ) → 1536 < v → (l : ℕ) → l < length S.lanes → total periods (λ t. cond (eqb (departure_arc S l t).tail v) (p l t) 0) ≡ 0
    past_tails = past_ends (λ a. a.tail) (λ l t m n. (ends_low l t m n).0)

    past_places : (v : ℕ) → 1536 < v → (d : ℕ) → d < length S.depots → total periods (λ t. cond (eqb (depot S d * 48 + t) v) (q d t) 0) ≡ 0
    past_places v m d n = total_none periods _ (q d) (λ t k. ne_eqb _ v (λ e. omega (arith, (sound.yards d n).0, periods_is)))

    pub came_owed : (d : ℕ) → d < 16 → came (1537 + d) ≡ total (length S.depots) (λ e. cond (eqb e d) (total periods (q e)) 0)
    came_owed d m =
        end_parts (λ a. a.head) (1537 + d)
        ∙ (parts_depots _ _ _ (λ e. cond (eqb e d) (total periods (q e)) 0) (λ e. 0) (past_heads (1537 + d) (omega arith))
        (λ e n. rw (same_node e d) (sym (total_cond (eqb e d) periods (q e))))
        (λ e n. rw (ne_eqb 1553 (1537 + d) (λ h. omega arith)))
        ∙ omega (arith, no_total (length S.depots)))

    pub went_owed : (d : ℕ) → d < 16 → went (1537 + d) ≡ total (length S.depots) (λ e. cond (eqb e d) (z e) 0)
    went_owed d m =
        end_parts (λ a. a.tail) (1537 + d)
        ∙ (parts_depots _ _ _ (λ e. 0) (λ e. cond (eqb e d) (z e) 0) (past_tails (1537 + d) (omega arith)) (past_places (1537 + d) (omega arith))
        (λ e n. rw (same_node e d))
        ∙ omega (arith, no_total (length S.depots)))

    pub came_all : came 1553 ≡ total (length S.depots) z
    came_all =
        end_parts (λ a. a.head) 1553
        ∙ (parts_depots _ _ _ (λ e. 0) z (past_heads 1553 (omega arith))
        (λ e n. total_none periods _ (q e) (λ t k. ne_eqb (1537 + e) 1553 (λ h. omega (arith, sound.few_depots)))) (λ e n. refl)
        ∙ omega (arith, no_total (length S.depots)))

    pub went_all : went 1553 ≡ 0
    went_all =
        end_parts (λ a. a.tail) 1553
        ∙ (parts_depots _ _ _ (λ e. 0) (λ e. 0) (past_tails 1553 (omega arith)) (past_places 1553 (omega arith))
        (λ e n. rw (ne_eqb (1537 + e) 1553 (λ h. omega (arith, sound.few_depots))))
        ∙ omega (arith, no_total (length S.depots)))

    module _ (quiet : Quiet S p) where
      pub came_place : (y u : ℕ) → y < 32 → u < 48 → came (y * 48 + u) ≡ arriving S p y u
      came_place y u m n =
          end_parts (λ a. a.head) (y * 48 + u)
          ∙ (parts_totals _ _ _ _ (λ d. 0) (λ d. 0)
          (λ l k. total_same periods _ (λ t. cond ((eqb (lane S l).to y && leb (lane S l).transit u) && eqb t (u - (lane S l).transit)) (p l t) 0)
          (λ t j. arc_test (live_departure S l t) _ (λ a. a.head) (y * 48 + u) (p l t) _ (λ e. head_test l t y u k e n) (quiet l t k (omega (arith, periods_is))))
          ∙ pick_period (eqb (lane S l).to y && leb (lane S l).transit u) (u - (lane S l).transit) (p l) (omega arith))
          (λ d k. total_none periods _ (q d) (λ t j. ne_eqb (1537 + d) (y * 48 + u) (λ e. omega arith)))
          (λ d k. rw (ne_eqb 1553 (y * 48 + u) (λ e. omega arith)))
          ∙ omega (arith, no_total (length S.depots)))

      pub went_place : (y u : ℕ) → y ≢ S.origin → y < 32 → u < 48 → went (y * 48 + u) ≡ leaving S p y u + total (length S.depots) (λ d. cond (eqb (depot S d) y) (q d u) 0)
      went_place y u ne m n =
          end_parts (λ a. a.tail) (y * 48 + u)
          ∙ (parts_totals _ _ _ _ (λ d. cond (eqb (depot S d) y) (q d u) 0) (λ d. 0)
          (λ l k. total_same periods _ (λ t. cond (eqb (lane S l).from y && eqb t u) (p l t) 0)
          (λ t j. let i : t < 48 = omega (arith, periods_is) in
          arc_test (live_departure S l t) _ (λ a. a.tail) (y * 48 + u) (p l t) _ (λ e. tail_test _ t y u ne m i n) (quiet l t k i))
          ∙ (pick_period (eqb (lane S l).from y) u (p l) n
          ∙ guard (eqb (lane S l).from y) (departs S l u) (p l u) (λ e. quiet l u k n (and_left (departs S l u) _ e))))
          (λ d k. total_same periods _ (λ t. cond (eqb (depot S d) y && eqb t u) (q d t) 0) (λ t j. rw (eqb_place (depot S d) t y u (omega (arith, periods_is)) n))
          ∙ pick_period (eqb (depot S d) y) u (q d) n)
          (λ d k. rw (ne_eqb (1537 + d) (y * 48 + u) (λ e. omega arith)))
          ∙ omega (arith, no_total (length S.depots)))

      -- the origin's places are idle: the source stands for them
      pub went_origin : (u : ℕ) → u < 48 → went (S.origin * 48 + u) ≡ 0
      went_origin u n =
          end_parts (λ a. a.tail) (S.origin * 48 + u)
          ∙ (parts_depots _ _ _ (λ d. 0) (λ d. 0)
          (λ l k. total_zero periods _ (λ t j. let i : t < 48 = omega (arith, periods_is) in
          arc_test (live_departure S l t) _ (λ a. a.tail) (S.origin * 48 + u) (p l t) false (λ e. origin_test _ t u i n) (quiet l t k i)))
          (λ d k. total_none periods _ (q d) (λ t j. ne_eqb (depot S d * 48 + t) (S.origin * 48 + u) (λ e. (sound.yards d k).1 (omega (arith, periods_is)))))
          (λ d k. rw (ne_eqb (1537 + d) (S.origin * 48 + u) (λ e. omega (arith, sound.origin))))
          ∙ omega (arith, no_total (length S.depots)))
