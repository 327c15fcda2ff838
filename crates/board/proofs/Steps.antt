-- What is invariant on a board still holds with one depot more, and with one lane more.
use Rattle.std.proofs.Common.{◌≡◌, ℕ, ◌<◌, ◌≤◌, true, false, ◌≢◌, ◌⊎◌, List, [], ◌∷◌, ◌++◌, length, replicate, None, Ok, Err, Result, refl, ap, ◌∙◌, subst, inl, inr, arith}
use Rattle.std.specs.Prelude.{slice_index}
use Rattle.std.proofs.Math.ListN.{get_or-append}
use Rattle.std.proofs.Math.Seq.{get_or-append_seam}
use Rattle.std.proofs.lemmas.Bool.{false_from_ne_true}
use Rattle.std.proofs.lemmas.List.{length-map, map-append}
use Rattle.refusals.specs.declared.Refusal.{Refusal}
use Rattle.refusals.specs.Refusals.{Decides}
use Rattle.refusals.proofs.Decided.{clear}
use Rattle.timetable.specs.Plans.{is_depot}
use Rattle.slips.specs.declared.table.Entry.{Entry}
use Rattle.slips.specs.Owed.{owed_at}
use Rattle.timetable.specs.declared.Lane.{Lane}
use Rattle.roads.specs.Grids.{Grid, timetable, with_lane, with_depot}
use Rattle.roads.specs.Rules.{Adds, Names, depot_rules}
use Rattle.board.specs.Owing.{owed_by}
use Rattle.board.proofs.Growing.{Grown, lane_feasible, lane_delivers, depot_feasible, depot_delivers, no_depot_before}
use Rattle.board.proofs.Kept.{Kept, kept_same}

-- what is owed by depot, with one depot more
module _ (hs : List Entry) (depots : List ℕ) (y : ℕ) where
  owed_before : (d : ℕ) → d < length depots → slice_index (owed_by (depots ++ y ∷ []) hs) d ≡ slice_index (owed_by depots hs) d
  owed_before d lt =
      ap (λ (l : List ℕ). slice_index l d) (map-append (λ z. owed_at z hs) depots (y ∷ []))
      ∙ get_or-append (owed_by depots hs) (owed_at y hs ∷ []) 0 d (omega (arith, lt, length-map depots (λ z. owed_at z hs)))

  owed_last : slice_index (owed_by (depots ++ y ∷ []) hs) (length depots) ≡ owed_at y hs
  owed_last =
      ap (λ (l : List ℕ). slice_index l (length depots)) (map-append (λ z. owed_at z hs) depots (y ∷ []))
      ∙ subst (λ (n : ℕ). slice_index (owed_by depots hs ++ owed_at y hs ∷ []) n ≡ owed_at y hs) (length-map depots (λ z. owed_at z hs)) (get_or-append_seam (owed_by depots hs) (owed_at y hs) [] 0)

-- a depot is named, or is not
module _ (g : Grid) (yard : ℕ) (hs : List Entry) (p : ℕ → ℕ → ℕ) (k : Kept g hs p) where
  -- it can be only where it is new and nothing is owed there
  module _ (d : Decides (depot_rules g yard) None) where
    free : (yard ≡ g.origin) ⊎ (is_depot (timetable g) yard ≡ true) → ⊥
    free = (clear (depot_rules g yard) d).1.1.0

    away : yard ≢ g.origin
    away = λ e. free (inl e)

    new : is_depot (timetable g) yard ≡ false
    new = false_from_ne_true _ (λ e. free (inr e))

    with_depot_kept : Kept (with_depot g yard) hs p
    with_depot_kept = record {
      feasible = depot_feasible (timetable g) yard away new p k.feasible;
      delivers = depot_delivers (timetable g) yard away new p k.feasible (slice_index (owed_by g.depots hs)) (slice_index (owed_by (g.depots ++ yard ∷ []) hs))
          (owed_before hs g.depots yard) (owed_last hs g.depots yard ∙ k.promised yard new) k.delivers;
      bounded = k.bounded;
      promised = λ z none. k.promised z (no_depot_before (timetable g) yard away new p k.feasible z none);
    }

  pub named_kept : (r : Result ℕ Refusal) (g' : Grid) → Names g yard r g' → Kept g' hs p
  named_kept (Err why) g' n = kept_same g g' hs p p n.1 refl k
  named_kept (Ok order) g' n = kept_same (with_depot g yard) g' hs p p n.2 refl (with_depot_kept n.0)

-- a lane is added, and its loads are 0
pub added_kept : (g g' : Grid) (lane : Lane) (capacity n : ℕ) (hs : List Entry) (p p' : ℕ → ℕ → ℕ) → Adds g lane capacity (Ok n) g' → length g.capacities ≡ length g.lanes → g.horizon ≤ 47
    → ((l t : ℕ) → l < n → t < 48 → p' l t ≡ p l t) → ((t : ℕ) → t < 48 → p' n t ≡ 0) → Kept g hs p → Kept g' hs p'
added_kept g g' lane capacity n hs p p' adds rows short others own k = kept_same (with_lane g lane capacity) g' hs p' p' adds.2 refl (record {
  feasible = lane_feasible (timetable g) lane capacities p p' grown k.feasible;
  delivers = lane_delivers (timetable g) lane capacities p p' grown (slice_index (owed_by g.depots hs)) k.delivers;
  bounded = k.bounded;
  promised = k.promised;
})
  where
    capacities : ℕ → ℕ → ℕ
    capacities = (timetable (with_lane g lane capacity)).capacity

    grown : Grown (timetable g) lane capacities p p'
    grown = record {
      short = omega (arith, short);
      capacities = λ l t lt. ap (λ (row : List ℕ). slice_index row t) (get_or-append g.capacities (replicate 48 capacity ∷ []) [] l (omega (arith, lt, rows)));
      loads = λ l t lt m. others l t (omega (arith, lt, adds.1)) m;
      nothing = λ t m. subst (λ (j : ℕ). p' j t ≡ 0) adds.1 (own t m);
    }
