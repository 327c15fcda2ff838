-- The roads of a board, and what calls make of them.
use Rattle.std.specs.Prelude.{ℕ, List, [], ◌∷◌, ◌++◌, replicate, vec_items, slice_index_or, slice_set}
use Rattle.timetable.specs.declared.Lane.{Lane}
use Rattle.timetable.specs.Plans.{Timetable}
use Rattle.expanded.specs.Lists.{timetable_by}
use Rattle.roads.specs.declared.roads.Roads.{Roads}

-- Each lane has a row of capacities, one for each period from 0 to 47.
pub record Grid : Type 0 where
  pub horizon : ℕ
  pub origin : ℕ
  pub lanes : List Lane
  pub capacities : List (List ℕ)
  pub depots : List ℕ

abbrev pub grid_of : Roads → Grid
grid_of r = record { horizon = r.horizon; origin = r.origin; lanes = vec_items r.lanes; capacities = vec_items r.capacities; depots = vec_items r.depots }

abbrev pub timetable : Grid → Timetable
timetable g = timetable_by g.horizon g.origin g.lanes g.capacities g.depots

-- opening leaves the horizon and the origin and nothing else
abbrev pub opened : ℕ → ℕ → Grid
opened horizon origin = record { horizon = horizon; origin = origin; lanes = []; capacities = []; depots = [] }

-- one lane more, with the same capacity at all its departures
abbrev pub with_lane : Grid → Lane → ℕ → Grid
with_lane g lane capacity = record {
  horizon = g.horizon;
  origin = g.origin;
  lanes = g.lanes ++ lane ∷ [];
  capacities = g.capacities ++ replicate 48 capacity ∷ [];
  depots = g.depots;
}

-- one depot more, the last in their order
abbrev pub with_depot : Grid → ℕ → Grid
with_depot g yard = record { horizon = g.horizon; origin = g.origin; lanes = g.lanes; capacities = g.capacities; depots = g.depots ++ yard ∷ [] }

-- the capacity of one departure set
abbrev pub with_capacity : Grid → ℕ → ℕ → ℕ → Grid
with_capacity g lane period capacity = record {
  horizon = g.horizon;
  origin = g.origin;
  lanes = g.lanes;
  capacities = slice_set g.capacities lane (slice_set (slice_index_or g.capacities lane []) period capacity);
  depots = g.depots;
}
