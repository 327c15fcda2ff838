-- A plan still stands once a lane that carries nothing is added, and once a depot is named to which nothing is owed.
use Rattle.std.proofs.Common.{◌≡◌, ℕ, suc, ◌+◌, ◌-◌, ◌<◌, ◌≤◌, Bool, true, false, ◌&&◌, ◌≢◌, ◌⊎◌, [], ◌∷◌, ◌++◌, length, sym, refl, ap, ◌∙◌, subst, inl, inr, ⊎_elim, arith}
use Rattle.std.specs.Prelude.{nat_le, ◌==◌, if◌then◌else◌}
use Rattle.std.proofs.Math.ListN.{get_or-append}
use Rattle.std.proofs.Math.Seq.{get_or-append_seam}
use Rattle.std.proofs.lemmas.Bool.{cases_lt, leb-true, eqb-true}
use Rattle.std.proofs.lemmas.List.{length-append}
use Rattle.flow.specs.Network.{total}
use Rattle.flow.proofs.Sums.{total_same, total_zero, cond_none}
use Rattle.timetable.proofs.Sums.{some_below_at, some_below_from, cond_same}
use Rattle.timetable.specs.declared.Lane.{Lane}
use Rattle.timetable.specs.Plans.{Timetable, lane, depot, is_depot, departs, arriving, leaving, Feasible, Delivers}

-- One lane more: the capacities of the others and their loads stay, and its own loads are 0.
module _ (S : Timetable) (x : Lane) (capacity : ℕ → ℕ → ℕ) (p p' : ℕ → ℕ → ℕ) where
  abbrev more : Timetable
  more = record { horizon = S.horizon; origin = S.origin; lanes = S.lanes ++ x ∷ []; capacity = capacity; depots = S.depots }

  pub record Grown : Type 0 where
    pub short : S.horizon < 48
    pub capacities : (l t : ℕ) → l < length S.lanes → capacity l t ≡ S.capacity l t
    pub loads : (l t : ℕ) → l < length S.lanes → t < 48 → p' l t ≡ p l t
    pub nothing : (t : ℕ) → t < 48 → p' (length S.lanes) t ≡ 0

  module _ (grown : Grown) where
    count : length (S.lanes ++ x ∷ []) ≡ suc (length S.lanes)
    count = omega (arith, length-append S.lanes (x ∷ []))

    lane_at : (l : ℕ) → l < length S.lanes → lane more l ≡ lane S l
    lane_at l lt = get_or-append S.lanes (x ∷ []) _ l lt

    -- a sum over the lanes, in which the new one counts for nothing
    over_lanes : (g g' : ℕ → ℕ) → ((l : ℕ) → l < length S.lanes → g' l ≡ g l) → g' (length S.lanes) ≡ 0 → total (length (S.lanes ++ x ∷ [])) g' ≡ total (length S.lanes) g
    over_lanes g g' same none = ap (λ (n : ℕ). total n g') count ∙ omega (arith, total_same (length S.lanes) g' g same, none)

    arriving_same : (y u : ℕ) → u ≤ S.horizon → arriving more p' y u ≡ arriving S p y u
    arriving_same y u le =
        over_lanes _ _
        (λ l lt. ap (λ (a : Lane). if a.to == y && nat_le a.transit u then p' l (u - a.transit) else 0) (lane_at l lt)
        ∙ cond_same _ _ _ (λ e. grown.loads l _ lt (omega (arith, le, grown.short))))
        (cond_same _ _ 0 (λ e. grown.nothing _ (omega (arith, le, grown.short))) ∙ cond_none _)

    leaving_same : (y u : ℕ) → u ≤ S.horizon → leaving more p' y u ≡ leaving S p y u
    leaving_same y u le =
        over_lanes _ _
        (λ l lt. ap (λ (a : Lane). if a.from == y && nat_le (u + a.transit) S.horizon then p' l u else 0) (lane_at l lt)
        ∙ cond_same _ _ _ (λ e. grown.loads l u lt (omega (arith, le, grown.short))))
        (cond_same _ _ 0 (λ e. grown.nothing u (omega (arith, le, grown.short))) ∙ cond_none _)

    departs_before : (l t : ℕ) → departs more l t ≡ true → t < 48
    departs_before l t e = omega (arith, leb-true _ _ e, grown.short)

    pub lane_feasible : Feasible S p → Feasible more p'
    lane_feasible f = record {
      fits = λ l t lt e. ⊎_elim
          (λ old. rw (grown.loads l t old (departs_before l t e)) (rw (grown.capacities l t old)
          (f.fits l t old (subst (λ (a : Lane). nat_le (t + a.transit) S.horizon ≡ true) (lane_at l old) e))))
          (λ new. let last : length S.lanes ≡ l = omega (arith, new, lt, count) in
          let none : p' l t ≡ 0 = subst (λ (k : ℕ). p' k t ≡ 0) last (grown.nothing t (departs_before l t e)) in omega (arith, none))
          (cases_lt l (length S.lanes));
      passes = λ y u le ne no. arriving_same y u le ∙ f.passes y u le ne no ∙ sym (leaving_same y u le);
      keeps = λ y u le yes'. omega (arith, arriving_same y u le, leaving_same y u le, f.keeps y u le yes');
    }

    pub lane_delivers : (owed : ℕ → ℕ) → Delivers S owed p → Delivers more owed p'
    lane_delivers owed d k lt =
        total_same (suc S.horizon) _ _
        (λ u le. let l : u ≤ S.horizon = omega (arith, le) in
        ap (λ (n : ℕ). n - leaving more p' (depot S k) u) (arriving_same (depot S k) u l) ∙ ap (λ (n : ℕ). arriving S p (depot S k) u - n) (leaving_same (depot S k) u l))
        ∙ d k lt

-- One depot more, at a yard that is neither the origin nor a depot: what it is owed is 0.
module _ (S : Timetable) (y : ℕ) (away : y ≢ S.origin) (new : is_depot S y ≡ false) (p : ℕ → ℕ → ℕ) (feasible : Feasible S p) where
  abbrev named : Timetable
  named = record { horizon = S.horizon; origin = S.origin; lanes = S.lanes; capacity = S.capacity; depots = S.depots ++ y ∷ [] }

  pub depot_count : length (S.depots ++ y ∷ []) ≡ suc (length S.depots)
  depot_count = omega (arith, length-append S.depots (y ∷ []))

  depot_at : (d : ℕ) → d < length S.depots → depot named d ≡ depot S d
  depot_at d lt = get_or-append S.depots (y ∷ []) 0 d lt

  depot_last : (d : ℕ) → length S.depots ≤ d → d < length (S.depots ++ y ∷ []) → depot named d ≡ y
  depot_last d ge lt =
      let last : length S.depots ≡ d = omega (arith, ge, lt, depot_count) in
      subst (λ (k : ℕ). depot named k ≡ y) last (get_or-append_seam S.depots y [] 0)

  -- a yard that is a depot now was one, or is the new one
  was_depot : (z : ℕ) → is_depot named z ≡ true → (is_depot S z ≡ true) ⊎ (y ≡ z)
  was_depot z e =
      let (d, lt, at) = some_below_at (length (S.depots ++ y ∷ [])) (λ k. depot named k == z) e in
      ⊎_elim
      (λ old. inl (some_below_from (length S.depots) (λ k. depot S k == z) d old (subst (λ (w : ℕ). (w == z) ≡ true) (depot_at d old) at)))
      (λ ge. inr (sym (depot_last d ge lt) ∙ eqb-true _ _ at))
      (cases_lt d (length S.depots))

  is_depot_still : (z : ℕ) → is_depot S z ≡ true → is_depot named z ≡ true
  is_depot_still z e =
      let (d, lt, at) = some_below_at (length S.depots) (λ k. depot S k == z) e in
      some_below_from (length (S.depots ++ y ∷ [])) (λ k. depot named k == z) d (omega (arith, lt, depot_count)) (subst (λ (w : ℕ). (w == z) ≡ true) (sym (depot_at d lt)) at)

  pub no_depot_before : (z : ℕ) → is_depot named z ≡ false → is_depot S z ≡ false
  no_depot_before z e = by_test (is_depot S z) refl
    where
      by_test : (b : Bool) → is_depot S z ≡ b → is_depot S z ≡ false
      by_test false h = h
      by_test true h = let c : true ≡ false = sym (is_depot_still z h) ∙ e in cc

  -- at the new one all that arrives leaves
  passes_on : (u : ℕ) → u ≤ S.horizon → arriving S p y u ≡ leaving S p y u
  passes_on u le = feasible.passes y u le away new

  pub depot_feasible : Feasible named p
  depot_feasible = record {
    fits = feasible.fits;
    passes = λ z u le ne no. feasible.passes z u le ne (no_depot_before z no);
    keeps = λ z u le yes'. ⊎_elim
        (λ old. feasible.keeps z u le old)
        (λ same. subst (λ (w : ℕ). leaving S p w u ≤ arriving S p w u) same (omega (arith, passes_on u le)))
        (was_depot z yes');
  }

  -- owed by depot: as before, and nothing at the new one
  pub depot_delivers : (owed owed' : ℕ → ℕ) → ((d : ℕ) → d < length S.depots → owed' d ≡ owed d) → owed' (length S.depots) ≡ 0 → Delivers S owed p → Delivers named owed' p
  depot_delivers owed owed' same none d k lt =
      ⊎_elim
      (λ old. ap (λ (z : ℕ). total (suc S.horizon) (λ u. arriving S p z u - leaving S p z u)) (depot_at k old) ∙ d k old ∙ sym (same k old))
      (λ ge. let last : length S.depots ≡ k = omega (arith, ge, lt, depot_count) in
      total_zero (suc S.horizon) _
      (λ u le. let l : u ≤ S.horizon = omega (arith, le) in
      subst (λ (z : ℕ). arriving S p z u - leaving S p z u ≡ 0) (sym (depot_last k ge lt)) (omega (arith, passes_on u l)))
      ∙ sym (subst (λ (j : ℕ). owed' j ≡ 0) last none))
      (cases_lt k (length S.depots))
