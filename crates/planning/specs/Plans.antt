-- What is answered where a plan is asked for, and what the list for it becomes.
use Rattle.std.specs.Prelude.{◌≡◌, ℕ, ◌<◌, ◌≤◌, false, List, length, drop, Some, None, Ok, Err, Result, slice_index}
use Rattle.timetable.specs.Plans.{Feasible, Delivers, Servable, departs}
use Rattle.day_network.specs.DayNetwork.{lane_arcs, plan_of}
use Rattle.expanded.specs.Made.{owed_fault}
use Rattle.expanded.specs.Schedules.{timetable_of}
use Rattle.expanded.specs.declared.schedule.Schedule.{Schedule}
use Rattle.planning.specs.declared.error.PlanError.{PlanError}
use Rattle.planning.specs.declared.error.PlanError.TheVariants.{Owed, PlanTooShort, Unservable}

-- The list holds a feasible plan that delivers just what is owed, with 0 where nothing departs, and is as it was past the loads of
-- the lanes. Or the list is as it was, and the first of these is told: what is wrong with what is owed, that the list is too
-- short, or that no feasible plan delivers all owed.
abbrev pub Plans : Schedule → List ℕ → List ℕ → List ℕ → Result Unit PlanError → Type 0
Plans s owed plan plan' (Ok x) =
    (owed_fault s owed ≡ None) × (lane_arcs (timetable_of s) ≤ length plan)
    × Feasible (timetable_of s) (plan_of plan') × Delivers (timetable_of s) (slice_index owed) (plan_of plan')
    × (drop (lane_arcs (timetable_of s)) plan' ≡ drop (lane_arcs (timetable_of s)) plan)
    × ((l t : ℕ) → l < length s.lanes.now → t < 48 → departs (timetable_of s) l t ≡ false → plan_of plan' l t ≡ 0)
Plans s owed plan plan' (Err (Owed e)) = (owed_fault s owed ≡ Some e) × (plan' ≡ plan)
Plans s owed plan plan' (Err PlanTooShort) = (owed_fault s owed ≡ None) × (length plan < lane_arcs (timetable_of s)) × (plan' ≡ plan)
Plans s owed plan plan' (Err Unservable) =
    (owed_fault s owed ≡ None) × (lane_arcs (timetable_of s) ≤ length plan) × (Servable (timetable_of s) (slice_index owed) → ⊥) × (plan' ≡ plan)
