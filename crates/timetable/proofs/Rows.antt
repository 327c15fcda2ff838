-- What the test says where it passes: of a plan, of a cut, of a quote and of a row.
use Rattle.std.proofs.Common.{◌≡◌, ℕ, zero, suc, ◌+◌, ◌-◌, ◌*◌, ◌<◌, ◌≤◌, Bool, true, false, cond, not, ◌&&◌, eqb, ltb, leb, ◌≢◌, List, [], ◌∷◌, length, get_or, sym, refl, ap, ◌∙◌, ⊎_elim, arith}
use Rattle.std.specs.List.{AllByRecursion as All}
use Rattle.std.proofs.lemmas.List.{get_or_past}
use Rattle.std.proofs.lemmas.Bool.{cases_lt, and_parts, or_cases, eqb-true, eqb-false, leb-true, ltb-true, lt-ltb, le-ltb, eq-eqb, not-true, both_ways, cond-false}
use Rattle.std.proofs.lemmas.Bool.Decides.{nat_tests}
use Rattle.flow.specs.Network.{total}
use Rattle.timetable.specs.Plans.{Timetable, Sound, some_below, lane, depot, is_depot, departs, arriving, leaving, Feasible, delivered, Split, Servable}
use Rattle.timetable.specs.Live.{is_live}
use Rattle.timetable.specs.Quotes.{Ranking, further, ahead, Cut, width, all_owed, marked, Right}
use Rattle.timetable.specs.Rows.{Table, Certificate, Row, quoted, served, refused, Holds, certified, timetable, entry, each_entry, passes, implies, sound_lane, sound_depot, is_sound, balances, is_feasible, is_split, is_inside, is_cut, earlier, by_room, by_load, by_surplus, by_share, is_reached, is_kept, is_full, is_served, is_quoted, no_ranks, is_refused, CertifiedHolds}
use Rattle.timetable.specs.Duality.{Settled}
use Rattle.flow.specs.Checker.{each_below}
use Rattle.flow.proofs.Sums.{total_same, total_zero}
use Rattle.flow.proofs.Checked.{each_below_at}
use Rattle.timetable.proofs.Sums.{some_below_at, total_both}
use Rattle.timetable.proofs.Live.{live_upto, comes_in, goes_out}
use Rattle.timetable.proofs.Duality.{plan_duality_lem, tight_settled}

entry_at : (S : Timetable) (n : ℕ) (p : ℕ → ℕ → Bool) → each_entry S n p ≡ true → (i t : ℕ) → i < n → t ≤ S.horizon → p i t ≡ true
entry_at S n p e i t l m = each_below_at (suc S.horizon) (p i) (each_below_at n (λ j. each_below (suc S.horizon) (p j)) e i l) t (omega arith)

passed : (bs : List Bool) → passes bs ≡ true → All (λ b. b ≡ true) bs
passed [] e = tt
passed (b ∷ bs) e = let h = and_parts b (passes bs) e in (h.0, passed bs h.1)

implied : (a b : Bool) → implies a b ≡ true → a ≡ true → b ≡ true
implied true b e h = e
implied false b e h = absurd (both_ways false refl h)

chosen : (b x y : Bool) → cond b x y ≡ true → (b ≡ true → x ≡ true) × (b ≡ false → y ≡ true)
chosen true x y e = (λ _. e, λ n. absurd (both_ways true n refl))
chosen false x y e = (λ n. absurd (both_ways false refl n), λ _. e)

differ : (a b : ℕ) → not (eqb a b) ≡ true → a ≢ b
differ a b e = eqb-false a b (not-true (eqb a b) e)

-- a bound on the numbers of a list holds of whatever is read there
read_le : (xs : List ℕ) (m : ℕ) → each_below (length xs) (λ i. leb (get_or xs i 0) m) ≡ true → (i : ℕ) → get_or xs i 0 ≤ m
read_le xs m e i = ⊎_elim (λ l. leb-true _ _ (each_below_at (length xs) _ e i l)) (λ l. omega (arith, get_or_past xs i 0 l)) (cases_lt i (length xs))

pub sound_from : (Z : Table) → passes (is_sound Z) ≡ true → Sound (timetable Z)
sound_from Z e =
    let S : Timetable = timetable Z in
    let (h₁, (h₂, (h₃, (h₄, (lanes, (small, (h₅, (depots, _)))))))) = passed (is_sound Z) e in
    record {
      periods = (leb-true _ _ h₁, leb-true _ _ h₂);
      origin = ltb-true _ _ h₃;
      few_lanes = leb-true _ _ h₄;
      ends = λ l h. let (a, (b, _)) = passed (sound_lane S l) (each_below_at (length Z.lanes) _ lanes l h) in (ltb-true _ _ a, ltb-true _ _ b);
      outward = λ l h. let (_, (_, (a, (b, _)))) = passed (sound_lane S l) (each_below_at (length Z.lanes) _ lanes l h) in (differ _ _ a, differ _ _ b);
      transits = λ l h. let (_, (_, (_, (_, (a, (b, _)))))) = passed (sound_lane S l) (each_below_at (length Z.lanes) _ lanes l h) in (leb-true _ _ a, leb-true _ _ b);
      bounded = λ l t. read_le Z.capacities 9999 small _;
      few_depots = leb-true _ _ h₅;
      yards = λ d h. let (a, (b, _)) = passed (sound_depot S d) (each_below_at (length Z.depots) _ depots d h) in (ltb-true _ _ a, differ _ _ b);
      apart = λ d f h i s. let (_, (_, (a, _))) = passed (sound_depot S d) (each_below_at (length Z.depots) _ depots d h) in eqb-true _ _ (implied _ _ (each_below_at (length Z.depots) _ a f i) (eq-eqb _ _ s));
    }

module _ (S : Timetable) (sound : Sound S) (p : ℕ → ℕ → ℕ) where
  -- nothing comes to a yard past 31 or leaves it
  far_arriving : (y u : ℕ) → 32 ≤ y → arriving S p y u ≡ 0
  far_arriving y u far =
      ⊎_elim (λ h. let i = comes_in S p y u h in absurd (omega (arith, (sound.ends i.by i.one).1, i.end))) (λ h. omega arith) (cases_lt 0 (arriving S p y u))

  far_leaving : (y u : ℕ) → 32 ≤ y → leaving S p y u ≡ 0
  far_leaving y u far =
      ⊎_elim (λ h. let i = goes_out S p y u h in absurd (omega (arith, (sound.ends i.by i.one).0, i.start))) (λ h. omega arith) (cases_lt 0 (leaving S p y u))

  pub feasible_from : passes (is_feasible S p) ≡ true → Feasible S p
  feasible_from e =
      let (fits, (yards, _)) = passed (is_feasible S p) e in
      record {
        fits = λ l t one dep. leb-true _ _ (implied (departs S l t) _ (entry_at S (length S.lanes) _ fits l t one (omega (arith, leb-true _ _ dep))) dep);
        passes = λ y u le ne d. ⊎_elim
            (λ near. ⊎_elim (λ q. absurd (ne (eqb-true _ _ q))) (eqb-true _ _) (or_cases (eqb y S.origin) _ ((chosen (is_depot S y) _ _ (entry_at S 32 (balances S p) yards y u near le)).1 d)))
            (λ far. far_arriving y u far ∙ sym (far_leaving y u far))
            (cases_lt y 32);
        keeps = λ y u le d. ⊎_elim
            (λ near. leb-true _ _ ((chosen (is_depot S y) _ _ (entry_at S 32 (balances S p) yards y u near le)).0 d))
            (λ far. omega (arith, far_leaving y u far))
            (cases_lt y 32);
      }

pub split_from : (S : Timetable) (owed : ℕ → ℕ) (p q : ℕ → ℕ → ℕ) → passes (is_split S owed p q) ≡ true → Split S owed p q
split_from S owed p q e =
    let (part, (whole, _)) = passed (is_split S owed p q) e in
    record {
      part = λ d u one le. leb-true _ _ (entry_at S (length S.depots) _ part d u one le);
      whole = λ d one. eqb-true _ _ (each_below_at (length S.depots) _ whole d one);
    }

-- what the plan brings to the ranks below k, rank by rank
next_rank : (s k x : ℕ) → cond (ltb s (suc k)) x 0 ≡ cond (ltb s k) x 0 + cond (eqb s k) x 0
next_rank s k x = grind (arith, nat_tests)

pub ahead_is : (S : Timetable) (R : Ranking) (p q : ℕ → ℕ → ℕ) (k : ℕ) → ahead S R p q k ≡ total k (further S R p q)
ahead_is S R p q zero = total_zero (length S.depots) _ (λ d _. total_zero (suc S.horizon) _ (λ u _. cond-false _ _ _ (le-ltb (R.rank d u) 0 (omega arith))))
ahead_is S R p q (suc k) =
    total_both (length S.depots) _ _ _ (λ d _. total_both (suc S.horizon) _ _ _ (λ u _. next_rank (R.rank d u) k (delivered S p d u - q d u)))
    ∙ ap (λ n. n + further S R p q k) (ahead_is S R p q k)

-- A place that is reached lies in every settled cut.
module _ (S : Timetable) (R : Ranking) (k : ℕ) (p q : ℕ → ℕ → ℕ) (X : ℕ → ℕ → Bool) (order : ℕ → ℕ → ℕ) (Y : ℕ → ℕ → Bool) (cut : Cut S R k Y) (set : Settled S R k p q Y) where
  moved : (y z t u : ℕ) → y ≡ z → t ≡ u → Y y t ≡ true → Y z u ≡ true
  moved y z t u e f h = rw (← e, ← f) h

  module _ (y t : ℕ) (inside : t ≤ S.horizon) (before : (z u : ℕ) → earlier X order y t z u ≡ true → Y z u ≡ true) where
    room_in : some_below (length S.lanes) (λ l. passes (by_room S p X order y t l)) ≡ true → Y y t ≡ true
    room_in e =
        let (l, one, h) = some_below_at (length S.lanes) (λ l. passes (by_room S p X order y t l)) e in
        let (to, (late, (live, (room, (from, _))))) = passed (by_room S p X order y t l) h in
        let late = leb-true (lane S l).transit t late in
        moved _ _ _ _ (eqb-true _ _ to) (omega arith) (set.room l (t - (lane S l).transit) one live (before _ _ from) (ltb-true _ _ room))

    load_in : some_below (length S.lanes) (λ l. passes (by_load S p X order y t l)) ≡ true → Y y t ≡ true
    load_in e =
        let (l, one, h) = some_below_at (length S.lanes) (λ l. passes (by_load S p X order y t l)) e in
        let (from, (live, (load, (to, _)))) = passed (by_load S p X order y t l) h in
        moved _ _ _ _ (eqb-true _ _ from) refl (set.load l t one live (before _ _ to) (ltb-true _ _ load))

    surplus_in : some_below (length S.depots) (λ d. passes (by_surplus S R k p q y t d)) ≡ true → Y y t ≡ true
    surplus_in e =
        let (d, one, h) = some_below_at (length S.depots) (λ d. passes (by_surplus S R k p q y t d)) e in
        let (here, (rank, (more, _))) = passed (by_surplus S R k p q y t d) h in
        moved _ _ _ _ (eqb-true _ _ here) refl (set.surplus d t one inside (leb-true _ _ rank) (ltb-true _ _ more))

    share_in : some_below (length S.depots) (λ d. passes (by_share S q X order y t d)) ≡ true → Y y t ≡ true
    share_in e =
        let (d, one, h) = some_below_at (length S.depots) (λ d. passes (by_share S q X order y t d)) e in
        let (here, (share, (some, _))) = passed (by_share S q X order y t d) h in
        let (u, upto, other) = some_below_at (suc S.horizon) (λ u. earlier X order y t y u) some in
        let here = eqb-true (depot S d) y here in
        moved _ _ _ _ here refl (set.share d t u one inside (omega arith) (moved _ _ _ _ (sym here) refl (before _ _ other)) (ltb-true _ _ share))

    reached_in : is_live S y t ≡ true → is_reached S R k p q X order y t ≡ true → Y y t ≡ true
    reached_in live e =
        ⊎_elim (λ o. let o = eqb-true y S.origin o in moved _ _ _ _ (sym o) refl (cut.origin t (rw o at live)))
        (λ e. ⊎_elim room_in (λ e. ⊎_elim load_in (λ e. ⊎_elim surplus_in share_in (or_cases _ _ e)) (or_cases _ _ e)) (or_cases _ _ e))
        (or_cases _ _ e)

  all_in : ((y t : ℕ) → X y t ≡ true → (t ≤ S.horizon) × (is_live S y t ≡ true) × (is_reached S R k p q X order y t ≡ true)) → (n y t : ℕ) → order y t < n → X y t ≡ true → Y y t ≡ true
  all_in reached zero y t l x = absurd (omega arith)
  all_in reached (suc n) y t l x =
      let (inside, live, e) = reached y t x in
      reached_in y t inside (λ z u h. let b = and_parts (X z u) _ h in all_in reached n z u (omega (arith, ltb-true _ _ b.1)) b.0) live e

-- a set that passes, if it holds no place past the yard 31 or the horizon
module _ (S : Timetable) (R : Ranking) (k : ℕ) (X : ℕ → ℕ → Bool) (within : (y t : ℕ) → X y t ≡ true → (y < 32) × (t ≤ S.horizon)) where
  cut_from : passes (is_cut S R k X) ≡ true → Cut S R k X
  cut_from e =
      let (live, (origin, (apart, _))) = passed (is_cut S R k X) e in
      record {
        live = λ y t x. let (l, m) = within y t x in implied (X y t) (is_live S y t) (entry_at S 32 (is_inside S X) live y t l m) x;
        origin = λ t live. implied _ _ (each_below_at (suc S.horizon) _ origin t (omega (arith, live_upto S S.origin t live))) live;
        apart = λ d t one le low. not-true _ (implied (ltb (R.rank d t) k) _ (entry_at S (length S.depots) _ apart d t one le) (lt-ltb _ _ (omega (arith, low))));
      }

  module _ (owed : ℕ → ℕ) (p q : ℕ → ℕ → ℕ) (w : ℕ) (order : ℕ → ℕ → ℕ) (e : passes (is_full S owed R k p q w X order) ≡ true) where
    full_cut : Cut S R k X
    full_cut = cut_from (passed (is_full S owed R k p q w X order) e).0

    places_reached : (y t : ℕ) → X y t ≡ true → (t ≤ S.horizon) × (is_live S y t ≡ true) × (is_reached S R k p q X order y t ≡ true)
    places_reached y t x =
        let (l, m) = within y t x in
        let (_, (kept, _)) = passed (is_full S owed R k p q w X order) e in
        (m, full_cut.live y t x, implied (X y t) (is_reached S R k p q X order y t) (entry_at S 32 (is_kept S R k p q X order) kept y t l m) x)

    wide : width S owed X ≡ w
    wide = eqb-true _ _ (passed (is_full S owed R k p q w X order) e).1.1.0

marked_within : (S : Timetable) (marks : List ℕ) (k y t : ℕ) → marked S marks k y t ≡ true → (y < 32) × (t ≤ S.horizon)
marked_within S marks k y t e =
    let b = and_parts (ltb y 32) _ e in
    (ltb-true _ _ b.0, leb-true _ _ (and_parts (leb t S.horizon) _ b.1).0)

module _ (Z : Table) (owed : List ℕ) where
  abbrev S : Timetable
  S = timetable Z

  abbrev due : ℕ → ℕ
  due d = get_or owed d 0

  -- what the test for a plan and its split says
  record Planned (c : Certificate) : Type 0 where
    sound : Sound S
    feasible : Feasible S (entry Z.horizon c.loads)
    split : Split S due (entry Z.horizon c.loads) (entry Z.horizon c.shares)

  planned : (c : Certificate) → passes (is_served Z owed c) ≡ true → Planned c
  planned c e =
      let (h₁, (h₂, (h₃, _))) = passed (is_served Z owed c) e in
      let sound : Sound S = sound_from Z h₁ in
      record { sound = sound; feasible = feasible_from S sound (entry Z.horizon c.loads) h₂; split = split_from S due (entry Z.horizon c.loads) (entry Z.horizon c.shares) h₃ }

  served_holds : (c : Certificate) → passes (is_served Z owed c) ≡ true → Servable S due
  served_holds c e = let P = planned c e in (entry Z.horizon c.loads, entry Z.horizon c.shares, P.feasible, P.split)

  refused_holds : (marks : List ℕ) → passes (is_refused Z owed marks) ≡ true → Servable S due → ⊥
  refused_holds marks e (p, q, feasible, split) =
      let (h₁, (h₂, (h₃, _))) = passed (is_refused Z owed marks) e in
      let narrow : width S due (marked S marks 0) < all_owed S due = ltb-true _ _ h₃ in
      let cut = cut_from S no_ranks 0 (marked S marks 0) (marked_within S marks 0) h₂ in
      omega (arith, plan_duality_lem S (sound_from Z h₁) due no_ranks 0 p q feasible split (marked S marks 0) cut)

  module _ (R : Ranking) (figures marks : List ℕ) (c : Certificate) (e : passes (is_quoted Z owed R figures marks c) ≡ true) where
    abbrev f : ℕ → ℕ
    f r = get_or figures r 0

    abbrev p : ℕ → ℕ → ℕ
    p = entry Z.horizon c.loads

    abbrev q : ℕ → ℕ → ℕ
    q = entry Z.horizon c.shares

    abbrev order : ℕ → ℕ → ℕ
    order = entry Z.horizon c.order

    abbrev X : ℕ → ℕ → ℕ → Bool
    X = marked S marks

    plans : Planned c
    plans = planned c (passed (is_quoted Z owed R figures marks c) e).0

    reaches : (r : ℕ) → r < R.ranks → further S R p q r ≡ f r
    reaches r l = eqb-true _ _ (each_below_at R.ranks _ (passed (is_quoted Z owed R figures marks c) e).1.0 r l)

    full : (k : ℕ) → k ≤ R.ranks → passes (is_full S due R k p q (all_owed S due + total k f) (X k) order) ≡ true
    full k l = each_below_at (suc R.ranks) _ (passed (is_quoted Z owed R figures marks c) e).1.1.0 k (omega arith)

    cut : (k : ℕ) → k ≤ R.ranks → Cut S R k (X k)
    cut k l = full_cut S R k (X k) (marked_within S marks k) due p q _ order (full k l)

    width_is : (k : ℕ) → k ≤ R.ranks → width S due (X k) ≡ all_owed S due + total k f
    width_is k l = wide S R k (X k) (marked_within S marks k) due p q _ order (full k l)

    -- a cut of the same width holds what is reached
    inside : (k : ℕ) → k ≤ R.ranks → (Y : ℕ → ℕ → Bool) → Cut S R k Y → width S due Y ≡ width S due (X k) → (y t : ℕ) → X k y t ≡ true → Y y t ≡ true
    inside k l Y cut same y t =
        all_in S R k p q (X k) order Y cut
        (tight_settled S plans.sound due R k p q plans.feasible plans.split Y cut (omega (arith, same, width_is k l, ahead_is S R p q k, total_same k (further S R p q) f (λ r m. reaches r (omega arith)))))
        (places_reached S R k (X k) (marked_within S marks k) due p q _ order (full k l)) (suc (order y t)) y t (omega arith)

    quoted_holds : Right S due R figures marks
    quoted_holds =
        record {
          best = record {
            plan = p;
            split = q;
            feasible = plans.feasible;
            serves = plans.split;
            reaches = reaches;
            most = λ k l p' q' fs sp. omega (arith, plan_duality_lem S plans.sound due R k p' q' fs sp (X k) (cut k l), width_is k l);
          };
          cuts = λ k l. record { cut = cut k l; full = width_is k l; inside = inside k l };
          low = λ y t _ _. omega (arith, read_le marks _ (passed (is_quoted Z owed R figures marks c) e).1.1.1.0 (y * suc S.horizon + t));
        }

pub certified_holds : CertifiedHolds
certified_holds (quoted Z owed R figures marks c) e = quoted_holds Z owed R figures marks c e
certified_holds (served Z owed c) e = served_holds Z owed c e
certified_holds (refused Z owed marks) e = refused_holds Z owed marks e

-- rows that pass hold
abbrev pub all_certified : List Row → Bool
all_certified [] = true
all_certified (r ∷ rs) = certified r && all_certified rs

pub rows_hold : (rs : List Row) → all_certified rs ≡ true → All Holds rs
rows_hold [] e = tt
rows_hold (r ∷ rs) e = let b = and_parts (certified r) (all_certified rs) e in (certified_holds r b.0, rows_hold rs b.1)
