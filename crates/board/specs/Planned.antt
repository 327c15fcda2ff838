-- The plan that loads are, and what a search for one leaves.
use Rattle.std.specs.Prelude.{◌≡◌, List, ℕ, Ok, Err, Result, vec_items, slice_index}
use Rattle.timetable.specs.Plans.{Feasible, Delivers, Servable}
use Rattle.day_network.specs.DayNetwork.{plan_of}
use Rattle.refusals.specs.declared.Refusal.{Refusal}
use Rattle.refusals.specs.declared.Refusal.TheVariants.{NoPlan}
use Rattle.roads.specs.Grids.{Grid, timetable}
use Rattle.board.specs.declared.loads.Loads.{Loads}

-- the load on each lane in each period
abbrev pub plan_in : Loads → ℕ → ℕ → ℕ
plan_in l = plan_of (vec_items l.list)

-- The loads are a feasible plan that delivers just what is owed; or no feasible plan delivers all owed, and they are as they were.
abbrev pub Planned : Grid → List ℕ → Loads → Result Unit Refusal → Loads → Type 0
Planned g owed loads (Ok x) loads' = Feasible (timetable g) (plan_in loads') × Delivers (timetable g) (slice_index owed) (plan_in loads')
Planned g owed loads (Err why) loads' = (why ≡ NoPlan) × (Servable (timetable g) (slice_index owed) → ⊥) × (plan_in loads' ≡ plan_in loads)
