-- What a search for a plan found.
use Rattle.std.proofs.Common.{◌≡◌, ℕ, ◌≤◌, true, false, List, Ok, Err, Result, refl, arith}
use Rattle.std.specs.Prelude.{slice_index, is_err, IsOk}
use Rattle.std.proofs.lemmas.List.{get_or-map}
use Rattle.refusals.specs.declared.Refusal.{Refusal}
use Rattle.roads.specs.Grids.{Grid, timetable}
use Rattle.timetable.specs.Plans.{Timetable, Feasible, Delivers, Servable, delivered}
use Rattle.slips.specs.declared.table.Entry.{Entry}
use Rattle.slips.specs.Owed.{owed_at}
use Rattle.day_network.proofs.DayQuotes.{release}
use Rattle.board.specs.Owing.{owed_by}
use Rattle.board.specs.Planned.{Planned, plan_in}
use Rattle.board.specs.declared.loads.Loads.{Loads}

-- a plan that delivers just what is owed shows that all owed can be delivered
pub delivers_servable : {S : Timetable} {owed : ℕ → ℕ} {p : ℕ → ℕ → ℕ} → Feasible S p → Delivers S owed p → Servable S owed
delivers_servable {S} {owed} {p} f d = (p, delivered S p, f, record { part = λ k u lt le. omega arith; whole = d })

-- and with less owed it still can
pub less_servable : (g : Grid) (hs hs' : List Entry) → ((y : ℕ) → owed_at y hs' ≤ owed_at y hs) → Servable (timetable g) (slice_index (owed_by g.depots hs))
    → Servable (timetable g) (slice_index (owed_by g.depots hs'))
less_servable g hs hs' less =
    release (timetable g) (slice_index (owed_by g.depots hs)) (slice_index (owed_by g.depots hs'))
    (λ k lt. rw (get_or-map (λ y. owed_at y hs) g.depots k 0 0 lt) (rw (get_or-map (λ y. owed_at y hs') g.depots k 0 0 lt) (less (slice_index g.depots k))))

-- A search finds a plan that delivers just what is owed; or no plan delivers all owed, and the loads are as they were.
module _ (g : Grid) (owed : List ℕ) (loads loads' : Loads) where
  pub planned : (r : Result Unit Refusal) → Planned g owed loads r loads' → is_err r ≡ false
      → Feasible (timetable g) (plan_in loads') × Delivers (timetable g) (slice_index owed) (plan_in loads')
  planned (Ok x) found e = found
  planned (Err why) found e = cc

  pub not_planned : (r : Result Unit Refusal) → Planned g owed loads r loads' → is_err r ≡ true
      → (Servable (timetable g) (slice_index owed) → ⊥) × (plan_in loads' ≡ plan_in loads)
  not_planned (Ok x) found e = cc
  not_planned (Err why) found e = (found.1, found.2)

  -- so where all owed can be delivered, it finds one
  pub found_always : (r : Result Unit Refusal) → Planned g owed loads r loads' → Servable (timetable g) (slice_index owed) → is_err r ≡ false
  found_always (Ok x) found servable = refl
  found_always (Err why) found servable = absurd (found.1 servable)

pub is_found : (r : Result Unit Refusal) → is_err r ≡ false → IsOk r
is_found (Ok x) e = refl
is_found (Err why) e = cc
