-- What a plan brings over the edge of a cut, counted at the places outside it and at the departures.
use Rattle.std.proofs.Common.{◌≡◌, ℕ, suc, ◌+◌, ◌-◌, ◌<◌, ◌≤◌, Bool, true, false, cond, not, ◌&&◌, eqb, ltb, leb, length, sym, refl, ap, ◌∙◌, subst, ap₂, ⊎_elim, arith}
use Rattle.std.proofs.lemmas.Bool.{cases_eq, cases_lt, cases_Bool, and_parts, and_from, not-true, not_from_false, eqb-true, leb-true, le-leb, ltb-true, ltb-false, le-ltb, eq-eqb, both_ways, cond-true, cond-false}
use Rattle.flow.specs.Network.{total}
use Rattle.timetable.specs.Plans.{Timetable, Sound, some_below, lane, depot, is_depot, departs, arriving, leaving, Feasible, delivered, Split}
use Rattle.timetable.specs.Live.{is_live, live_departure}
use Rattle.timetable.specs.Quotes.{Ranking, ahead, Cut, leads_out, outward, owed_in, width, all_owed}
use Rattle.timetable.specs.Duality.{PlanDuality, TightSettled, SettledTight}
use Rattle.flow.proofs.Sums.{total_same, total_zero, total_part}
use Rattle.timetable.proofs.Sums.{some_below_at, some_below_from, none_below, total_both, total_cond, total_at, total_shift, totals, totals_both, totals_part, totals_swap, totals_zero, total_one, cond_same}
use Rattle.timetable.proofs.Live.{GoesOut, live_departs, comes_in, goes_out, loaded_live, only_live_loaded}

pub and_true : (b : Bool) → (b && true) ≡ b
and_true true = refl
and_true false = refl

module _ (S : Timetable) where
  -- a sum over the depots at one yard
  pub one_depot : Sound S → (g : ℕ → ℕ) (d : ℕ) → d < length S.depots → total (length S.depots) (λ e. cond (eqb (depot S e) (depot S d)) (g e) 0) ≡ g d
  one_depot sound g d l = total_one (length S.depots) d (λ e. eqb (depot S e) (depot S d)) g l (eq-eqb _ _ refl) (λ e m t. sound.apart e d m l (eqb-true _ _ t))

  pub no_depot : (g : ℕ → ℕ) (y : ℕ) → is_depot S y ≡ false → total (length S.depots) (λ e. cond (eqb (depot S e) y) (g e) 0) ≡ 0
  no_depot g y e = total_zero (length S.depots) _ (λ d l. cond-false _ _ _ (none_below (length S.depots) (λ d. eqb (depot S d) y) e d l))

-- what has its end at a yard that passes, yard by yard or one by one
at_end : (e b c : Bool) (x : ℕ) → cond c (cond (e && b) x 0) 0 ≡ cond e (cond b (cond c x 0) 0) 0
at_end true true true x = refl
at_end true true false x = refl
at_end true false true x = refl
at_end true false false x = refl
at_end false b true x = refl
at_end false b false x = refl

module _ (n m k : ℕ) (end : ℕ → ℕ) (b : ℕ → ℕ → Bool) (x : ℕ → ℕ → ℕ) (c : ℕ → ℕ → Bool) (ends : (l : ℕ) → l < k → end l < n) where
  at_yard : (u l : ℕ) → l < k → total n (λ y. cond (c y u) (cond (eqb (end l) y && b l u) (x l u) 0) 0) ≡ cond (b l u) (cond (c (end l) u) (x l u) 0) 0
  at_yard u l h =
      total_same n _ _ (λ y _. at_end (eqb (end l) y) (b l u) (c y u) (x l u))
      ∙ total_at n (end l) (λ y. cond (b l u) (cond (c y u) (x l u) 0) 0) (ends l h)

  pub counted : totals n m (λ y u. cond (c y u) (total k (λ l. cond (eqb (end l) y && b l u) (x l u) 0)) 0) ≡ totals k m (λ l u. cond (b l u) (cond (c (end l) u) (x l u) 0) 0)
  counted =
      totals_swap n m _
      ∙ (total_same m _ _ (λ u _. total_same n _ _ (λ y _. total_cond (c y u) k _) ∙ (totals_swap n k _ ∙ total_same k _ _ (at_yard u)))
      ∙ totals_swap m k _)

-- Loads of the departures to places outside X and of those from such places, what is delivered there,
-- the room left on live departures out of X, and the loads of those into X.
abbrev came : Timetable → (ℕ → ℕ → ℕ) → (ℕ → ℕ → Bool) → ℕ → ℕ → ℕ
came S p X l t = cond (departs S l t) (cond (not (X (lane S l).to (t + (lane S l).transit))) (p l t) 0) 0

abbrev went : Timetable → (ℕ → ℕ → ℕ) → (ℕ → ℕ → Bool) → ℕ → ℕ → ℕ
went S p X l t = cond (departs S l t) (cond (not (X (lane S l).from t)) (p l t) 0) 0

abbrev kept : Timetable → (ℕ → ℕ → ℕ) → (ℕ → ℕ → Bool) → ℕ → ℕ → ℕ
kept S p X d u = cond (not (X (depot S d) u)) (delivered S p d u) 0

abbrev leads_in : Timetable → (ℕ → ℕ → Bool) → ℕ → ℕ → Bool
leads_in S X l t = live_departure S l t && (not (X (lane S l).from t) && X (lane S l).to (t + (lane S l).transit))

abbrev room : Timetable → (ℕ → ℕ → ℕ) → (ℕ → ℕ → Bool) → ℕ → ℕ → ℕ
room S p X l t = cond (leads_out S X l t) (S.capacity l t - p l t) 0

abbrev back : Timetable → (ℕ → ℕ → ℕ) → (ℕ → ℕ → Bool) → ℕ → ℕ → ℕ
back S p X l t = cond (leads_in S X l t) (p l t) 0

-- what is delivered at the place y@u
abbrev stock : Timetable → (ℕ → ℕ → ℕ) → ℕ → ℕ → ℕ
stock S p y u = total (length S.depots) (λ d. cond (eqb (depot S d) y && true) (delivered S p d u) 0)

outside_add : (b : Bool) (a x y : ℕ) → (b ≡ false → a ≡ x + y) → cond (not b) a 0 ≡ cond (not b) x 0 + cond (not b) y 0
outside_add true a x y e = refl
outside_add false a x y e = e refl

-- a departure by whether it is live and where its two places lie
departure : (live dep f t : Bool) (x c : ℕ) → (live ≡ true → dep ≡ true) → (dep ≡ true → x ≤ c) → (dep ≡ true → live ≡ false → x ≡ 0)
    → cond dep (cond (not t) x 0) 0 + (cond (live && (f && not t)) (c - x) 0 + cond (live && (not f && t)) x 0) ≡ cond dep (cond (not f) x 0) 0 + cond (live && (f && not t)) c 0
departure true false f t x c a b e = absurd (both_ways false refl (a refl))
departure false false f t x c a b e = refl
departure true true true true x c a b e = refl
departure true true true false x c a b e = omega (arith, b refl)
departure true true false true x c a b e = omega arith
departure true true false false x c a b e = omega arith
departure false true f t x c a b e = rw (e refl refl) (none t f)
  where
    none : (t f : Bool) → cond {A = ℕ} (not t) 0 0 + (0 + 0) ≡ cond {A = ℕ} (not f) 0 0 + 0
    none true true = refl
    none true false = refl
    none false true = refl
    none false false = refl

module _ (S : Timetable) (sound : Sound S) (p : ℕ → ℕ → ℕ) (feasible : Feasible S p) (X : ℕ → ℕ → Bool) (origin : (t : ℕ) → is_live S S.origin t ≡ true → X S.origin t ≡ true) where
  arriving_counted : totals 32 (suc S.horizon) (λ y u. cond (not (X y u)) (arriving S p y u) 0) ≡ totals (length S.lanes) (suc S.horizon) (came S p X)
  arriving_counted =
      counted 32 (suc S.horizon) (length S.lanes) (λ l. (lane S l).to) (λ l u. leb (lane S l).transit u) (λ l u. p l (u - (lane S l).transit)) (λ y u. not (X y u)) (λ l h. (sound.ends l h).1)
      ∙ total_same (length S.lanes) _ _ (λ l _. total_same (suc S.horizon) _ _ (λ u _. on_time l u) ∙ total_shift S.horizon (lane S l).transit (λ t. cond (not (X (lane S l).to (t + (lane S l).transit))) (p l t) 0))
    where
      on_time : (l u : ℕ) → cond (leb (lane S l).transit u) (cond (not (X (lane S l).to u)) (p l (u - (lane S l).transit)) 0) 0 ≡ cond (leb (lane S l).transit u) (cond (not (X (lane S l).to (u - (lane S l).transit + (lane S l).transit))) (p l (u - (lane S l).transit)) 0) 0
      on_time l u = cond_same (leb (lane S l).transit u) _ _ (λ e. let late = leb-true (lane S l).transit u e in ap (λ w. cond (not (X (lane S l).to w)) (p l (u - (lane S l).transit)) 0) (omega arith))

  leaving_counted : totals 32 (suc S.horizon) (λ y u. cond (not (X y u)) (leaving S p y u) 0) ≡ totals (length S.lanes) (suc S.horizon) (went S p X)
  leaving_counted = counted 32 (suc S.horizon) (length S.lanes) (λ l. (lane S l).from) (departs S) p (λ y u. not (X y u)) (λ l h. (sound.ends l h).0)

  stock_counted : totals 32 (suc S.horizon) (λ y u. cond (not (X y u)) (stock S p y u) 0) ≡ totals (length S.depots) (suc S.horizon) (kept S p X)
  stock_counted = counted 32 (suc S.horizon) (length S.depots) (depot S) (λ d u. true) (delivered S p) (λ y u. not (X y u)) (λ d h. (sound.yards d h).0)

  -- at a place outside X what arrives leaves or is delivered
  stock_is : (y u : ℕ) → stock S p y u ≡ total (length S.depots) (λ d. cond (eqb (depot S d) y) (delivered S p d u) 0)
  stock_is y u = total_same (length S.depots) _ _ (λ d _. ap (λ b. cond b (delivered S p d u) 0) (and_true (eqb (depot S d) y)))

  stock_at : (d u : ℕ) → d < length S.depots → stock S p (depot S d) u ≡ delivered S p d u
  stock_at d u one = stock_is (depot S d) u ∙ one_depot S sound (λ e. delivered S p e u) d one

  stock_none : (y u : ℕ) → is_depot S y ≡ false → stock S p y u ≡ 0
  stock_none y u e = stock_is y u ∙ no_depot S (λ d. delivered S p d u) y e

  origin_arriving : (u : ℕ) → arriving S p S.origin u ≡ 0
  origin_arriving u =
      ⊎_elim (λ h. let i = comes_in S p S.origin u h in absurd ((sound.outward i.by i.one).0 i.end)) (λ h. omega arith) (cases_lt 0 (arriving S p S.origin u))

  origin_leaving : (u : ℕ) → X S.origin u ≡ false → leaving S p S.origin u ≡ 0
  origin_leaving u x =
      ⊎_elim (λ h. absurd (both_ways _ x (origin u (live (goes_out S p S.origin u h))))) (λ h. omega arith) (cases_lt 0 (leaving S p S.origin u))
    where
      live : GoesOut S p S.origin u → is_live S S.origin u ≡ true
      live i =
          let b = and_parts (departs S i.by u) _ (loaded_live S p sound feasible i.by u i.one (le-leb _ _ i.has.0) i.has.1) in
          let P : ℕ → Type 0 = λ y. is_live S y u ≡ true in
          subst P i.start (and_parts (is_live S (lane S i.by).from u) _ b.1).0

  balance : (y u : ℕ) → u ≤ S.horizon → X y u ≡ false → arriving S p y u ≡ leaving S p y u + stock S p y u
  balance y u l x = ⊎_elim at_depot elsewhere (cases_Bool (is_depot S y))
    where
      at_depot : is_depot S y ≡ true → arriving S p y u ≡ leaving S p y u + stock S p y u
      at_depot h =
          let (d, one, e) = some_below_at (length S.depots) (λ d. eqb (depot S d) y) h in
          let P : ℕ → Type 0 = λ z. leaving S p z u ≤ arriving S p z u → arriving S p z u ≡ leaving S p z u + stock S p z u in
          subst P (eqb-true _ _ e) (λ le. omega (arith, stock_at d u one)) (feasible.keeps y u l h)

      elsewhere : is_depot S y ≡ false → arriving S p y u ≡ leaving S p y u + stock S p y u
      elsewhere h =
          let P : ℕ → Type 0 = λ z. X z u ≡ false → arriving S p z u ≡ leaving S p z u in
          let even : arriving S p y u ≡ leaving S p y u = ⊎_elim (λ e. subst P (sym e) (λ out. origin_arriving u ∙ sym (origin_leaving u out)) x) (λ ne. feasible.passes y u l ne h) (cases_eq y S.origin) in
          omega (arith, stock_none y u h)

  outside_balance : totals (length S.lanes) (suc S.horizon) (came S p X) ≡ totals (length S.lanes) (suc S.horizon) (went S p X) + totals (length S.depots) (suc S.horizon) (kept S p X)
  outside_balance =
      sym arriving_counted
      ∙ (totals_both 32 (suc S.horizon) _ _ _ (λ y u _ l. outside_add (X y u) _ _ _ (balance y u (omega arith)))
      ∙ ap₂ ◌+◌ leaving_counted stock_counted)

  -- the capacity out of X is what is delivered outside, the room left and the loads back
  pub edge : outward S X ≡ totals (length S.depots) (suc S.horizon) (kept S p X) + (totals (length S.lanes) (suc S.horizon) (room S p X) + totals (length S.lanes) (suc S.horizon) (back S p X))
  edge =
      let L : ℕ = length S.lanes in
      let H : ℕ = suc S.horizon in
      let wide : ℕ → ℕ → ℕ = λ l t. cond (leads_out S X l t) (S.capacity l t) 0 in
      omega (
        arith,
        outside_balance,
        totals_both L H (λ l t. came S p X l t + (room S p X l t + back S p X l t)) (came S p X) (λ l t. room S p X l t + back S p X l t) (λ l t _ _. refl),
        totals_both L H (λ l t. room S p X l t + back S p X l t) (room S p X) (back S p X) (λ l t _ _. refl),
        totals_both L H (λ l t. came S p X l t + (room S p X l t + back S p X l t)) (went S p X) wide
            (λ l t one _. departure (live_departure S l t) (departs S l t) (X (lane S l).from t) (X (lane S l).to (t + (lane S l).transit)) (p l t) (S.capacity l t)
            (λ e. (and_parts (departs S l t) _ e).0) (feasible.fits l t one) (only_live_loaded S sound p feasible l t one)),
      )

-- Of what is delivered outside X: the shares of what is owed, and the surplus of the ranks from k on;
-- and the shares that a depot with a place in X has outside.
abbrev given : Timetable → (ℕ → ℕ → ℕ) → (ℕ → ℕ → Bool) → ℕ → ℕ → ℕ
given S q X d u = cond (not (X (depot S d) u)) (q d u) 0

abbrev early : Timetable → Ranking → ℕ → (ℕ → ℕ → ℕ) → (ℕ → ℕ → ℕ) → ℕ → ℕ → ℕ
early S R k p q d u = cond (ltb (R.rank d u) k) (delivered S p d u - q d u) 0

abbrev surplus : Timetable → Ranking → ℕ → (ℕ → ℕ → ℕ) → (ℕ → ℕ → ℕ) → (ℕ → ℕ → Bool) → ℕ → ℕ → ℕ
surplus S R k p q X d u = cond (not (ltb (R.rank d u) k) && not (X (depot S d) u)) (delivered S p d u - q d u) 0

abbrev missed : Timetable → (ℕ → ℕ → ℕ) → (ℕ → ℕ → Bool) → ℕ → ℕ
missed S q X d = cond (some_below (suc S.horizon) (X (depot S d))) (total (suc S.horizon) (given S q X d)) 0

depot_place : (x r : Bool) (a b : ℕ) → (r ≡ true → x ≡ false) → b ≤ a → cond (not x) a 0 ≡ cond (not x) b 0 + (cond r (a - b) 0 + cond (not r && not x) (a - b) 0)
depot_place true true a b e l = absurd (both_ways true (e refl) refl)
depot_place true false a b e l = refl
depot_place false true a b e l = omega arith
depot_place false false a b e l = omega arith

owed_place : (b : Bool) (g o : ℕ) → (b ≡ false → g ≡ o) → g + cond b o 0 ≡ o + cond b g 0
owed_place true g o e = omega arith
owed_place false g o e = omega (arith, e refl)

module _ (S : Timetable) (sound : Sound S) (owed : ℕ → ℕ) (R : Ranking) (k : ℕ) (p q : ℕ → ℕ → ℕ) (feasible : Feasible S p) (split : Split S owed p q) (X : ℕ → ℕ → Bool) (cut : Cut S R k X) where
  kept_is : totals (length S.depots) (suc S.horizon) (kept S p X) ≡ totals (length S.depots) (suc S.horizon) (given S q X) + (ahead S R p q k + totals (length S.depots) (suc S.horizon) (surplus S R k p q X))
  kept_is =
      let D : ℕ = length S.depots in
      let H : ℕ = suc S.horizon in
      let rest : ℕ → ℕ → ℕ = λ d u. early S R k p q d u + surplus S R k p q X d u in
      omega (
        arith,
        totals_both D H (kept S p X) (given S q X) rest (λ d u one l. depot_place (X (depot S d) u) (ltb (R.rank d u) k) (delivered S p d u) (q d u) (λ e. cut.apart d u one (omega arith) (omega (arith, ltb-true _ _ e))) (split.part d u one (omega arith))),
        totals_both D H rest (early S R k p q) (surplus S R k p q X) (λ d u _ _. refl),
      )

  given_all : (d : ℕ) → d < length S.depots → some_below (suc S.horizon) (X (depot S d)) ≡ false → total (suc S.horizon) (given S q X d) ≡ owed d
  given_all d one e =
      total_same (suc S.horizon) (given S q X d) (q d) (λ u l. cond-true _ _ _ (not_from_false _ (none_below (suc S.horizon) (X (depot S d)) e u l)))
      ∙ split.whole d one

  given_is : totals (length S.depots) (suc S.horizon) (given S q X) + owed_in S owed X ≡ all_owed S owed + total (length S.depots) (missed S q X)
  given_is =
      let D : ℕ = length S.depots in
      let g : ℕ → ℕ = λ d. total (suc S.horizon) (given S q X d) in
      let o : ℕ → ℕ = λ d. cond (some_below (suc S.horizon) (X (depot S d))) (owed d) 0 in
      omega (
        arith,
        total_both D (λ d. g d + o d) g o (λ d _. refl),
        total_both D (λ d. g d + o d) owed (missed S q X) (λ d one. owed_place (some_below (suc S.horizon) (X (depot S d))) (g d) (owed d) (given_all d one)),
      )

  -- The width of a cut is what the plan brings to the ranks below k, and all owed, and four amounts that a better plan or a smaller cut would lack.
  accounted : width S owed X ≡ ahead S R p q k + all_owed S owed
      + (totals (length S.lanes) (suc S.horizon) (room S p X) + totals (length S.lanes) (suc S.horizon) (back S p X)
      + (totals (length S.depots) (suc S.horizon) (surplus S R k p q X) + total (length S.depots) (missed S q X)))
  accounted = omega (arith, edge S sound p feasible X cut.origin, kept_is, given_is)

pub plan_duality_lem : PlanDuality
plan_duality_lem S sound owed R k p q feasible split X cut = omega (arith, accounted S sound owed R k p q feasible split X cut)

-- a part of a sum that is 0 is not counted
none_counted : (n m : ℕ) (b : ℕ → ℕ → Bool) (g : ℕ → ℕ → ℕ) → totals n m (λ i j. cond (b i j) (g i j) 0) ≡ 0 → (i j : ℕ) → i < n → j < m → b i j ≡ true → g i j ≡ 0
none_counted n m b g e i j l k h = omega (arith, totals_part n m (λ i j. cond (b i j) (g i j) 0) i j l k, cond-true (b i j) (g i j) 0 h)

-- X holds what it would be wrong to leave out
held : (b : Bool) → (b ≡ false → ⊥) → b ≡ true
held true h = refl
held false h = absurd (h refl)

departs_inside : (S : Timetable) (l t : ℕ) → live_departure S l t ≡ true → t < suc S.horizon
departs_inside S l t e = omega (arith, live_departs S l t e)

pub tight_settled : TightSettled
tight_settled S sound owed R k p q feasible split X cut tight =
    let L : ℕ = length S.lanes in
    let D : ℕ = length S.depots in
    let H : ℕ = suc S.horizon in
    let all = accounted S sound owed R k p q feasible split X cut in
    let no_room : totals L H (room S p X) ≡ 0 = omega arith in
    let no_load : totals L H (back S p X) ≡ 0 = omega arith in
    let no_surplus : totals D H (surplus S R k p q X) ≡ 0 = omega arith in
    let none_missed : total D (missed S q X) ≡ 0 = omega arith in
    record {
      room = λ l t one live from less. held _ (λ out. absurd (omega (
        arith,
        none_counted L H (leads_out S X) (λ l t. S.capacity l t - p l t) no_room l t one (departs_inside S l t live) (and_from _ _ live (and_from _ _ from (not_from_false _ out))),
      )));
      load = λ l t one live to more. held _ (λ out. absurd (omega (
        arith,
        none_counted L H (leads_in S X) p no_load l t one (departs_inside S l t live) (and_from _ _ live (and_from _ _ (not_from_false _ out) to)),
      )));
      surplus = λ d t one le rank more. held _ (λ out. absurd (omega (
        arith,
        none_counted D H (λ d u. not (ltb (R.rank d u) k) && not (X (depot S d) u)) (λ d u. delivered S p d u - q d u) no_surplus d t one (omega arith) (and_from _ _ (not_from_false _ (le-ltb (R.rank d t) k (omega (arith, rank)))) (not_from_false _ out)),
      )));
      share = λ d t u one le lf inside more. held _ (λ out. absurd (omega (
        arith,
        total_part D (missed S q X) d one,
        cond-true (some_below H (X (depot S d))) (total H (given S q X d)) 0 (some_below_from H (X (depot S d)) u (omega arith) inside),
        total_part H (given S q X d) t (omega arith),
        cond-true (not (X (depot S d) t)) (q d t) 0 (not_from_false _ out),
      )));
    }

-- what counts nowhere
cond_none : (b : Bool) (x : ℕ) → (b ≡ true → 0 < x → ⊥) → cond b x 0 ≡ 0
cond_none true x e = ⊎_elim (λ l. absurd (e refl l)) (λ l. omega arith) (cases_lt 0 x)
cond_none false x e = refl

pub settled_tight : SettledTight
settled_tight S sound owed R k p q feasible split X cut set =
    let L : ℕ = length S.lanes in
    let D : ℕ = length S.depots in
    let H : ℕ = suc S.horizon in
    let no_room : totals L H (room S p X) ≡ 0 = totals_zero L H (room S p X) (λ l t one _. cond_none (leads_out S X l t) _ (λ e m.
    let a = and_parts (live_departure S l t) _ e in
    let b = and_parts (X (lane S l).from t) _ a.1 in
    both_ways _ (not-true _ b.1) (set.room l t one a.0 b.0 (omega arith)))) in
    let no_load : totals L H (back S p X) ≡ 0 = totals_zero L H (back S p X) (λ l t one _. cond_none (leads_in S X l t) _ (λ e m.
    let a = and_parts (live_departure S l t) _ e in
    let b = and_parts (not (X (lane S l).from t)) _ a.1 in
    both_ways _ (not-true _ b.0) (set.load l t one a.0 b.1 m))) in
    let no_surplus : totals D H (surplus S R k p q X) ≡ 0 = totals_zero D H (surplus S R k p q X) (λ d u one l. cond_none (not (ltb (R.rank d u) k) && not (X (depot S d) u)) _ (λ e m.
    let a = and_parts (not (ltb (R.rank d u) k)) _ e in
    both_ways _ (not-true _ a.1) (set.surplus d u one (omega arith) (ltb-false _ _ (not-true _ a.0)) (omega arith)))) in
    let none_given : (d : ℕ) → d < D → some_below H (X (depot S d)) ≡ true → total H (given S q X d) ≡ 0 = λ d one e.
    let (w, lw, x) = some_below_at H (X (depot S d)) e in
    total_zero H (given S q X d) (λ u l. cond_none (not (X (depot S d) u)) _ (λ out m. both_ways _ (not-true _ out) (set.share d u w one (omega arith) (omega arith) x m))) in
    let none_missed : total D (missed S q X) ≡ 0 = total_zero D (missed S q X) (λ d one. cond_none (some_below H (X (depot S d))) _ (λ e m. absurd (omega (arith, none_given d one e)))) in
    omega (arith, accounted S sound owed R k p q feasible split X cut)
