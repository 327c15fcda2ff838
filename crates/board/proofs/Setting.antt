-- A capacity that is set, and set back.
use Rattle.std.proofs.Common.{◌≡◌, ℕ, ◌<◌, ◌≤◌, true, false, ◌⊎◌, List, [], ◌∷◌, length, get_or, set, Some, None, Ok, Err, Option, Result, sym, refl, ap, ◌∙◌, subst, inl, inr, arith}
use Rattle.std.specs.Prelude.{slice_index, is_err}
use Rattle.std.proofs.lemmas.List.{set-get_or, get_or-set_same, set-set}
use Rattle.refusals.specs.declared.Refusal.{Refusal}
use Rattle.refusals.specs.declared.Refusal.TheVariants.{NoDeparture, NoPlan}
use Rattle.refusals.specs.Refusals.{rule, Decides}
use Rattle.refusals.proofs.Decided.{clear, decides_next}
use Rattle.roads.specs.Grids.{Grid, timetable, with_capacity}
use Rattle.roads.specs.Rules.{Sets, capacity_rules}
use Rattle.timetable.specs.Plans.{Servable, departs, is_depot}
use Rattle.slips.specs.declared.table.Entry.{Entry}
use Rattle.slips.specs.Owed.{owed_at}
use Rattle.board.specs.Owing.{owed_by}
use Rattle.board.specs.Planned.{Planned, plan_in}
use Rattle.board.specs.Rules.{Short, setting_rules}
use Rattle.board.specs.States.{State, capacity_set}
use Rattle.board.specs.Calls as calls
use Rattle.board.specs.declared.loads.Loads.{Loads}
use Rattle.board.proofs.Finding.{delivers_servable, planned, not_planned}
use Rattle.board.proofs.Kept.{Kept, kept_same}

set_back : (rows : List (List ℕ)) (l t c : ℕ) → l < length rows
    → set (set rows l (set (get_or rows l []) t c)) l (set (get_or (set rows l (set (get_or rows l []) t c)) l []) t (get_or (get_or rows l []) t 0)) ≡ rows
set_back rows l t c lt =
    let row = get_or rows l [] in
    let once = set row t c in
    let had = get_or row t 0 in
    set-set rows l once (set (get_or (set rows l once) l []) t had)
    ∙ ap (λ (r : List ℕ). set rows l (set r t had)) (get_or-set_same rows l once [] lt)
    ∙ ap (λ (r : List ℕ). set rows l r) (set-set row t c had ∙ set-get_or row t 0)
    ∙ set-get_or rows l []

module _ (g g' : Grid) (lane period capacity had : ℕ) (sets : Sets g lane period capacity (Ok had) g') (rows : length g.capacities ≡ length g.lanes) where
  there : lane < length g.capacities
  there = let small : length g.lanes ≤ lane → ⊥ = λ l. (clear (capacity_rules g lane period capacity) sets.0).1.0 (inl l) in omega (arith, small, rows)

  restored : with_capacity (with_capacity g lane period capacity) lane period ((timetable g).capacity lane period) ≡ g
  restored = λ i. record { horizon = g.horizon; origin = g.origin; lanes = g.lanes; capacities = set_back g.capacities lane period capacity there i; depots = g.depots }

  never_refused : (why : Refusal) (n : ℕ) → n ≤ 9999 → Decides (capacity_rules (with_capacity g lane period capacity) lane period n) (Some why) → ⊥
  never_refused why n low (inl w) = let z : ⊥ = omega (arith, w.0, low) in z
  never_refused why n low (inr w) = last w.1
    where
      last : Decides (rule NoDeparture ((length g.lanes ≤ lane) ⊎ (departs (timetable g) lane period ≡ false)) ∷ []) (Some why) → ⊥
      last (inl v) = (clear (capacity_rules g lane period capacity) sets.0).1.0 v.0
      last (inr v) = cc

  -- set back, the roads are as they were
  back : (g'' : Grid) (r : Result ℕ Refusal) → (timetable g).capacity lane period ≤ 9999 → Sets g' lane period had r g'' → g'' ≡ g
  back g'' (Err why) low again =
      absurd (never_refused why had (omega (arith, low, sets.1)) (subst (λ (h : Grid). Decides (capacity_rules h lane period had) (Some why)) sets.2 again.0))
  back g'' (Ok x) low again =
      again.2 ∙ ap (λ (h : Grid). with_capacity h lane period had) sets.2
      ∙ ap (λ (n : ℕ). with_capacity (with_capacity g lane period capacity) lane period n) sets.1 ∙ restored

  -- A plan is looked for. Where one is found, the capacity stays.
  module _ (hs : List Entry) (loads loads' : Loads) where
    abbrev before : State
    before = record { grid = g; holds = hs }

    -- whether there is one decides
    decided : (o : Option Refusal) → Decides (rule NoPlan (Short (capacity_set before lane period capacity)) ∷ []) o → Decides (setting_rules before lane period capacity) o
    decided o d = decides_next (capacity_rules g lane period capacity) (rule NoPlan (Short (capacity_set before lane period capacity)) ∷ []) o sets.0 d

    pub set_kept : (r : Result Unit Refusal) → Planned g' (owed_by g'.depots hs) loads r loads' → is_err r ≡ false
        → Kept g hs (plan_in loads) → Kept g' hs (plan_in loads')
    set_kept r searched found k =
        let (feasible, delivers) = planned g' (owed_by g'.depots hs) loads loads' r searched found in
        record {
          feasible = feasible;
          delivers = delivers;
          bounded = k.bounded;
          promised = subst (λ (h : Grid). (y : ℕ) → is_depot (timetable h) y ≡ false → owed_at y hs ≡ 0) (sym sets.2) k.promised;
        }

    pub set_done : (r : Result Unit Refusal) → Planned g' (owed_by g'.depots hs) loads r loads' → is_err r ≡ false
        → calls.Sets before lane period capacity r (record { grid = g'; holds = hs })
    set_done (Ok x) searched found =
        let servable = subst (λ (h : Grid). Servable (timetable h) (slice_index (owed_by h.depots hs))) sets.2 (delivers_servable searched.0 searched.1) in
        (decided None (inr ((λ short. short servable), refl)), ap (λ (h : Grid). record { grid = h; holds = hs }) sets.2)
    set_done (Err why) searched found = cc

    -- Where there is none, it is set back.
    module _ (g'' : Grid) (again : Result ℕ Refusal) (low : (timetable g).capacity lane period ≤ 9999) (unset : Sets g' lane period had again g'') where
      pub unset_kept : (r : Result Unit Refusal) → Planned g' (owed_by g'.depots hs) loads r loads' → is_err r ≡ true
          → Kept g hs (plan_in loads) → Kept g'' hs (plan_in loads')
      unset_kept r searched failed =
          kept_same g g'' hs (plan_in loads) (plan_in loads') (back g'' again low unset) (not_planned g' (owed_by g'.depots hs) loads loads' r searched failed).1

      pub unset_done : (r : Result Unit Refusal) → Planned g' (owed_by g'.depots hs) loads r loads' → is_err r ≡ true
          → calls.Sets before lane period capacity r (record { grid = g''; holds = hs })
      unset_done (Ok x) searched failed = cc
      unset_done (Err why) searched failed =
          let short = subst (λ (h : Grid). Servable (timetable h) (slice_index (owed_by h.depots hs)) → ⊥) sets.2 searched.1 in (
            decided (Some why) (inl (short, ap (λ (r : Refusal). Some r) searched.0)),
            ap (λ (h : Grid). record { grid = h; holds = hs }) (back g'' again low unset),
          )
