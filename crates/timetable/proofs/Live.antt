-- The test of live places says what the distances say, and a load that is carried runs between live places.
use Rattle.std.proofs.Common.{◌≡◌, ℕ, zero, suc, ◌+◌, ◌-◌, ◌<◌, ◌≤◌, Bool, true, ◌&&◌, eqb, leb, ◌⊎◌, length, refl, ◌∙◌, subst, inl, inr, ⊎_elim, arith}
use Rattle.std.proofs.lemmas.Bool.{cases_eq, cases_lt, cases_Bool, and_parts, and_from, or_cases, or_left, or_right, eqb-true, eq-eqb, leb-true, le-leb, both_ways}
use Rattle.timetable.specs.Plans.{Timetable, Sound, lane, depot, is_depot, departs, arriving, leaving, Feasible}
use Rattle.timetable.specs.Live.{Way, there, on, Distance, Live, comes, is_depot_place, goes, is_live, live_departure, TestSaysLive, OnlyLiveLoaded}
use Rattle.timetable.proofs.Sums.{some_below_at, some_below_from, first, counted_some, counted_from}

-- The two tests by their cases: a pallet is at the origin, or came by a lane; it is at a depot, or goes by a lane.
abbrev comes_by : Timetable → ℕ → ℕ → ℕ → ℕ → Bool
comes_by S n y t l = eqb (lane S l).to y && (leb (lane S l).transit t && comes S n (lane S l).from (t - (lane S l).transit))

abbrev goes_by : Timetable → ℕ → ℕ → ℕ → ℕ → Bool
goes_by S n y t l = eqb (lane S l).from y && goes S n (lane S l).to (t + (lane S l).transit)

-- A lane of which P holds ends at y@t, or starts at y.
pub record LastLane (S : Timetable) (P : ℕ → ℕ → Type 0) (y t : ℕ) : Type 0 where
  pub by : ℕ
  pub one : by < length S.lanes
  pub end : (lane S by).to ≡ y
  pub late : (lane S by).transit ≤ t
  pub has : P by (t - (lane S by).transit)

pub record NextLane (S : Timetable) (P : ℕ → Type 0) (y : ℕ) : Type 0 where
  pub by : ℕ
  pub one : by < length S.lanes
  pub start : (lane S by).from ≡ y
  pub has : P by

abbrev ComesBy : Timetable → ℕ → ℕ → ℕ → Type 0
ComesBy S n = LastLane S (λ l t. comes S n (lane S l).from t ≡ true)

abbrev GoesBy : Timetable → ℕ → ℕ → ℕ → Type 0
GoesBy S n y t = NextLane S (λ l. goes S n (lane S l).to (t + (lane S l).transit) ≡ true) y

record AtDepot (S : Timetable) (y t : ℕ) : Type 0 where
  place : ℕ
  one : place < length S.depots
  here : depot S place ≡ y
  inside : t ≤ S.horizon

abbrev pub WayOut : Timetable → ℕ → ℕ → Type 0
WayOut S y t = (d : ℕ) × (m : ℕ) × (d < length S.depots) × Way S y (depot S d) m × (t + m ≤ S.horizon)

module _ (S : Timetable) where
  comes_origin : (n y t : ℕ) → y ≡ S.origin → comes S n y t ≡ true
  comes_origin zero y t e = eq-eqb y S.origin e
  comes_origin (suc n) y t e = or_left (eqb y S.origin) _ (eq-eqb y S.origin e)

  comes_lane : (n y t : ℕ) → ComesBy S n y t → comes S (suc n) y t ≡ true
  comes_lane n y t h =
      or_right (eqb y S.origin) _ (some_below_from (length S.lanes) (comes_by S n y t) h.by h.one
      (and_from _ _ (eq-eqb _ _ h.end) (and_from _ _ (le-leb _ _ h.late) h.has)))

  comes_cases : (n y t : ℕ) → comes S (suc n) y t ≡ true → (y ≡ S.origin) ⊎ ComesBy S n y t
  comes_cases n y t e =
      ⊎_elim (λ q. inl (eqb-true y S.origin q))
      (λ q. let (l, h, b) = some_below_at (length S.lanes) (comes_by S n y t) q in
      let u = and_parts (eqb (lane S l).to y) _ b in
      let v = and_parts (leb (lane S l).transit t) _ u.1 in
      inr (record { by = l; one = h; end = eqb-true _ _ u.0; late = leb-true _ _ v.0; has = v.1 }))
      (or_cases _ _ e)

  goes_depot : (n y t : ℕ) → AtDepot S y t → goes S n y t ≡ true
  goes_depot n y t h =
      let d : is_depot_place S y t ≡ true = and_from _ (is_depot S y) (le-leb _ _ (omega (arith, h.inside))) (some_below_from (length S.depots) (λ d. eqb (depot S d) y) h.place h.one (eq-eqb _ _ h.here)) in
      go n d
    where
      go : (n : ℕ) → is_depot_place S y t ≡ true → goes S n y t ≡ true
      go zero d = d
      go (suc n) d = or_left (is_depot_place S y t) _ d

  goes_lane : (n y t : ℕ) → GoesBy S n y t → goes S (suc n) y t ≡ true
  goes_lane n y t h =
      or_right (is_depot_place S y t) _ (some_below_from (length S.lanes) (goes_by S n y t) h.by h.one (and_from _ _ (eq-eqb _ _ h.start) h.has))

  at_depot : (y t : ℕ) → is_depot_place S y t ≡ true → AtDepot S y t
  at_depot y t e =
      let u = and_parts _ (is_depot S y) e in
      let (d, h, b) = some_below_at (length S.depots) (λ d. eqb (depot S d) y) u.1 in
      record { place = d; one = h; here = eqb-true _ _ b; inside = omega (arith, leb-true _ _ u.0) }

  goes_cases : (n y t : ℕ) → goes S (suc n) y t ≡ true → AtDepot S y t ⊎ GoesBy S n y t
  goes_cases n y t e =
      ⊎_elim (λ q. inl (at_depot y t q))
      (λ q. let (l, h, b) = some_below_at (length S.lanes) (goes_by S n y t) q in
      let u = and_parts (eqb (lane S l).from y) _ b in
      inr (record { by = l; one = h; start = eqb-true _ _ u.0; has = u.1 }))
      (or_cases _ _ e)

  -- ways, one after another
  way_long : {i j : ℕ} {n m : ℕ} → n ≡ m → Way S i j n → Way S i j m
  way_long {i} {j} e w = subst (λ n. Way S i j n) e w

  way_then : {i j k n m : ℕ} → Way S i j n → Way S j k m → Way S i k (n + m)
  way_then there w = way_long (omega arith) w
  way_then (on l h v) w = way_long (omega arith) (on l h (way_then v w))

  comes_way : (n y t : ℕ) → comes S n y t ≡ true → (m : ℕ) × Way S S.origin y m × (m ≤ t)
  comes_way zero y t e = (0, subst (λ o. Way S o y 0) (eqb-true y S.origin e) there, omega arith)
  comes_way (suc n) y t e =
      ⊎_elim (λ q. (0, subst (λ o. Way S o y 0) q there, omega arith))
      (λ h. let (m, w, le) = comes_way n _ _ h.has in
      let v : Way S (lane S h.by).from y ((lane S h.by).transit + 0) = on h.by h.one (subst (λ j. Way S (lane S h.by).to j 0) h.end there) in
      (m + ((lane S h.by).transit + 0), way_then w v, omega (arith, le, h.late)))
      (comes_cases n y t e)

  depot_way : (y t : ℕ) → AtDepot S y t → WayOut S y t
  depot_way y t h = (h.place, 0, h.one, subst (λ i. Way S i (depot S h.place) 0) h.here there, omega (arith, h.inside))

  pub goes_way : (n y t : ℕ) → goes S n y t ≡ true → WayOut S y t
  goes_way zero y t e = depot_way y t (at_depot y t e)
  goes_way (suc n) y t e =
      ⊎_elim (depot_way y t)
      (λ h. let (d, m, one, w, le) = goes_way n _ _ h.has in
      (d, (lane S h.by).transit + m, one, subst (λ i. Way S i (depot S d) ((lane S h.by).transit + m)) h.start (on h.by h.one w), omega (arith, le)))
      (goes_cases n y t e)

  -- more lanes and more time do no harm
  comes_more : (n k y t u : ℕ) → n ≤ k → t ≤ u → comes S n y t ≡ true → comes S k y u ≡ true
  comes_more zero k y t u a b e = comes_origin k y u (eqb-true y S.origin e)
  comes_more (suc n) zero y t u a b e = absurd (omega arith)
  comes_more (suc n) (suc k) y t u a b e =
      ⊎_elim (comes_origin (suc k) y u)
      (λ h. comes_lane k y u (record {
        by = h.by;
        one = h.one;
        end = h.end;
        late = omega (arith, h.late);
        has = comes_more n k _ _ _ (omega arith) (omega (arith, h.late)) h.has;
      }))
      (comes_cases n y t e)

  -- each lane takes at least a period
  module _ (slow : (l : ℕ) → l < length S.lanes → 1 ≤ (lane S l).transit) where
    way_comes : {i j m : ℕ} → Way S i j m → (n k t u : ℕ) → n + m ≤ k → t + m ≤ u → comes S n i t ≡ true → comes S k j u ≡ true
    way_comes {i} there n k t u a b e = comes_more n k i t u (omega arith) (omega arith) e
    way_comes (on l h w) n k t u a b e =
        way_comes w (suc n) k (t + (lane S l).transit) u (omega (arith, slow l h)) (omega arith)
        (comes_lane n _ _ (record { by = l; one = h; end = refl; late = omega arith; has = comes_more n n _ t _ (omega arith) (omega arith) e }))

    way_goes : {i j m : ℕ} → Way S i j m → (d : ℕ) → d < length S.depots → depot S d ≡ j → (n t : ℕ) → m ≤ n → t + m ≤ S.horizon → goes S n i t ≡ true
    way_goes {i} there d one e n t a b = goes_depot n i t (record { place = d; one = one; here = e; inside = omega arith })
    way_goes (on l h w) d one e zero t a b = absurd (omega (arith, slow l h))
    way_goes (on l h w) d one e (suc n) t a b =
        goes_lane n _ t (record { by = l; one = h; start = refl; has = way_goes w d one e n (t + (lane S l).transit) (omega (arith, slow l h)) (omega arith) })

-- no place past the horizon is live
pub live_upto : (S : Timetable) (y t : ℕ) → is_live S y t ≡ true → t ≤ S.horizon
live_upto S y t e =
    let (d, m, one, w, le) = goes_way S S.horizon y t (and_parts (comes S S.horizon y t) (goes S S.horizon y t) e).1 in
    omega (arith, le)

-- the same lanes, from another yard
abbrev sent_from : Timetable → ℕ → Timetable
sent_from S i = record { horizon = S.horizon; origin = i; lanes = S.lanes; capacity = S.capacity; depots = S.depots }

way_of : (S : Timetable) (o p : ℕ) {i j m : ℕ} → Way (sent_from S o) i j m → Way (sent_from S p) i j m
way_of S o p there = there
way_of S o p (on l h w) = on l h (way_of S o p w)

-- where there is a way there is a shortest, which the test from its start finds
shortest : (S : Timetable) → ((l : ℕ) → l < length S.lanes → 1 ≤ (lane S l).transit) → {i j n : ℕ} → Way S i j n → (m : ℕ) × Distance S i j m × (m ≤ n)
shortest S slow {i} {j} {n} w =
    ⊎_elim
    (λ none. absurd (both_ways _ (none n (omega arith)) (found n (omega arith) w)))
    (λ h. let (m, v, le) = comes_way (sent_from S i) n j h.0 h.2 in
    (m, record { way = way_of S i S.origin v; least = λ k x. ⊎_elim (λ l. absurd (both_ways _ (h.3 k l) (found k (omega (arith, h.1)) x))) (λ l. omega (arith, le)) (cases_lt k h.0) }, omega (arith, le, h.1)))
    (first (suc n) (comes (sent_from S i) n j))
  where
    found : (k : ℕ) → k ≤ n → Way S i j k → comes (sent_from S i) n j k ≡ true
    found k l x = way_comes (sent_from S i) slow (way_of S S.origin i x) 0 n 0 k (omega arith) (omega arith) (eq-eqb i i refl)

pub test_says_live : TestSaysLive
test_says_live S sound y t = (live, test)
  where
    slow : (l : ℕ) → l < length S.lanes → 1 ≤ (lane S l).transit
    slow l h = (sound.transits l h).0

    live : is_live S y t ≡ true → Live S y t
    live e =
        let b = and_parts (comes S S.horizon y t) (goes S S.horizon y t) e in
        let (n, w, le) = comes_way S S.horizon y t b.0 in
        let (d, m, one, v, lf) = goes_way S S.horizon y t b.1 in
        let a = shortest S slow w in
        let z = shortest S slow v in
        record { come = (a.0, a.1, omega (arith, le, a.2)); go = (d, z.0, one, z.1, omega (arith, lf, z.2)) }

    test : Live S y t → is_live S y t ≡ true
    test h =
        let (n, a, le) = h.come in
        let (d, m, one, z, lf) = h.go in
        and_from _ _
        (way_comes S slow a.way 0 S.horizon 0 t (omega (arith, le, lf)) (omega (arith, le)) (eq-eqb _ _ refl))
        (way_goes S slow z.way d one refl S.horizon t (omega (arith, lf)) lf)

pub live_departs : (S : Timetable) (l t : ℕ) → live_departure S l t ≡ true → t + (lane S l).transit ≤ S.horizon
live_departs S l t e = leb-true _ _ (and_parts (departs S l t) _ e).0

-- A load on a lane leaves the one place and arrives at the other.
abbrev into : Timetable → ℕ → ℕ → ℕ → Bool
into S y u l = eqb (lane S l).to y && leb (lane S l).transit u

abbrev out_of : Timetable → ℕ → ℕ → ℕ → Bool
out_of S y u l = eqb (lane S l).from y && departs S l u

abbrev pub ComesIn : Timetable → (ℕ → ℕ → ℕ) → ℕ → ℕ → Type 0
ComesIn S p = LastLane S (λ l t. 0 < p l t)

abbrev pub GoesOut : Timetable → (ℕ → ℕ → ℕ) → ℕ → ℕ → Type 0
GoesOut S p y t = NextLane S (λ l. (t + (lane S l).transit ≤ S.horizon) × (0 < p l t)) y

module _ (S : Timetable) (p : ℕ → ℕ → ℕ) where
  pub comes_in : (y u : ℕ) → 0 < arriving S p y u → ComesIn S p y u
  comes_in y u h =
      let (l, one, t, x) = counted_some (length S.lanes) (into S y u) (λ l. p l (u - (lane S l).transit)) h in
      let e = and_parts (eqb (lane S l).to y) _ t in
      record { by = l; one = one; end = eqb-true _ _ e.0; late = leb-true _ _ e.1; has = x }

  pub goes_out : (y u : ℕ) → 0 < leaving S p y u → GoesOut S p y u
  goes_out y u h =
      let (l, one, t, x) = counted_some (length S.lanes) (out_of S y u) (λ l. p l u) h in
      let e = and_parts (eqb (lane S l).from y) _ t in
      record { by = l; one = one; start = eqb-true _ _ e.0; has = (leb-true _ _ e.1, x) }

  leaves : (l t : ℕ) → l < length S.lanes → t + (lane S l).transit ≤ S.horizon → 0 < p l t → 0 < leaving S p (lane S l).from t
  leaves l t one soon x = counted_from (length S.lanes) (out_of S (lane S l).from t) (λ k. p k t) l one (and_from _ _ (eq-eqb (lane S l).from _ refl) (le-leb _ _ soon)) x

  arrives : (l t : ℕ) → l < length S.lanes → 0 < p l t → 0 < arriving S p (lane S l).to (t + (lane S l).transit)
  arrives l t one x =
      let u : ℕ = t + (lane S l).transit in
      let e : u - (lane S l).transit ≡ t = omega arith in
      counted_from (length S.lanes) (into S (lane S l).to u) (λ k. p k (u - (lane S k).transit)) l one
      (and_from _ _ (eq-eqb (lane S l).to _ refl) (le-leb (lane S l).transit u (omega arith))) (rw e x)

  -- In a feasible plan what leaves a yard other than the origin came there, and what comes stays at a depot or leaves.
  module _ (sound : Sound S) (feasible : Feasible S p) where
    sent_on : (y u : ℕ) → u ≤ S.horizon → 0 < leaving S p y u → (y ≡ S.origin) ⊎ (0 < arriving S p y u)
    sent_on y u l h =
        ⊎_elim inl
        (λ ne. inr (⊎_elim (λ d. omega (arith, feasible.keeps y u l d)) (λ d. omega (arith, feasible.passes y u l ne d)) (cases_Bool (is_depot S y))))
        (cases_eq y S.origin)

    stays_or_leaves : (y u : ℕ) → u ≤ S.horizon → 0 < arriving S p y u → (is_depot S y ≡ true) ⊎ (0 < leaving S p y u)
    stays_or_leaves y u l h =
        ⊎_elim inl
        (λ d. let i = comes_in y u h in
        inr (omega (arith, feasible.passes y u l (λ e. (sound.outward i.by i.one).0 (i.end ∙ e)) d)))
        (cases_Bool (is_depot S y))

    loaded_comes : (n y u : ℕ) → u ≤ n → u ≤ S.horizon → (y ≡ S.origin) ⊎ (0 < arriving S p y u) → comes S n y u ≡ true
    loaded_comes n y u a b (inl e) = comes_origin S n y u e
    loaded_comes zero y u a b (inr h) = let i = comes_in y u h in absurd (omega (arith, i.late, (sound.transits i.by i.one).0))
    loaded_comes (suc n) y u a b (inr h) =
        let i = comes_in y u h in
        let late = i.late in
        let slow = (sound.transits i.by i.one).0 in
        comes_lane S n y u (record {
          by = i.by;
          one = i.one;
          end = i.end;
          late = late;
          has = loaded_comes n _ _ (omega arith) (omega arith) (sent_on _ _ (omega arith) (leaves i.by _ i.one (omega arith) i.has));
        })

    loaded_goes : (n y u : ℕ) → S.horizon ≤ u + n → u ≤ S.horizon → (is_depot S y ≡ true) ⊎ (0 < leaving S p y u) → goes S n y u ≡ true
    loaded_goes n y u a b (inl e) = goes_depot S n y u (at_depot S y u (and_from _ _ (le-leb _ _ (omega arith)) e))
    loaded_goes zero y u a b (inr h) = let i = goes_out y u h in absurd (omega (arith, i.has.0, (sound.transits i.by i.one).0))
    loaded_goes (suc n) y u a b (inr h) =
        let i = goes_out y u h in
        let soon = i.has.0 in
        let slow = (sound.transits i.by i.one).0 in
        goes_lane S n y u (record {
          by = i.by;
          one = i.one;
          start = i.start;
          has = loaded_goes n _ _ (omega arith) soon (stays_or_leaves _ _ soon (arrives i.by u i.one i.has.1));
        })

    pub loaded_live : (l t : ℕ) → l < length S.lanes → departs S l t ≡ true → 0 < p l t → live_departure S l t ≡ true
    loaded_live l t one dep x =
        let soon = leb-true _ _ dep in
        let out = leaves l t one soon x in
        let into = arrives l t one x in
        let early : t ≤ S.horizon = omega arith in
        and_from _ _ dep (and_from _ _
        (and_from _ _ (loaded_comes S.horizon _ t early early (sent_on _ t early out)) (loaded_goes S.horizon _ t (omega arith) early (inr out)))
        (and_from _ _ (loaded_comes S.horizon _ _ soon soon (inr into)) (loaded_goes S.horizon _ _ (omega arith) soon (stays_or_leaves _ _ soon into))))

pub only_live_loaded : OnlyLiveLoaded
only_live_loaded S sound p feasible l t one dep dead =
    ⊎_elim (λ x. absurd (both_ways _ dead (loaded_live S p sound feasible l t one dep x))) (λ le. omega arith) (cases_lt 0 (p l t))
