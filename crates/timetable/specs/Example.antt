-- The example: a lane from the origin to the yard 1, from which a lane leads to either depot, and what its rows say.
use Rattle.std.specs.Prelude.{ℕ, List, [], ◌∷◌, ◌++◌}
use Rattle.std.specs.List.{AllByRecursion}
use Rattle.timetable.specs.Plans.{Lane}
use Rattle.ranking.specs.Ranking.{by_depot, by_period}
use Rattle.timetable.specs.Rows.{Table, Certificate, Row, quoted, served, refused, Holds}

abbrev pub lanes : List Lane
lanes = record { from = 0; to = 1; transit = 1 } ∷ record { from = 1; to = 2; transit = 1 } ∷ record { from = 1; to = 3; transit = 1 } ∷ []

-- The yard 0 is the origin, the yards 2 and 3 are the depots. The capacities are 3, 2 and 2, but that of the first lane is x
-- in the period 1.
abbrev pub example : ℕ → Table
example x = record { horizon = 3; origin = 0; lanes = lanes; capacities = 3 ∷ x ∷ 3 ∷ 3 ∷ 2 ∷ 2 ∷ 2 ∷ 2 ∷ 2 ∷ 2 ∷ 2 ∷ 2 ∷ []; depots = 2 ∷ 3 ∷ [] }

-- the same up to the period 1
abbrev pub short : Table
short = record { horizon = 1; origin = 0; lanes = lanes; capacities = 3 ∷ 3 ∷ 2 ∷ 2 ∷ 2 ∷ 2 ∷ []; depots = 2 ∷ 3 ∷ [] }

-- With nothing owed: what the depots get, the first first, and what the periods get, the first first. The marks stand yard by
-- yard, from the period 0 to 3.
abbrev pub fresh_loads : List ℕ
fresh_loads = 3 ∷ 3 ∷ 0 ∷ 0 ∷ 0 ∷ 2 ∷ 2 ∷ 0 ∷ 0 ∷ 1 ∷ 1 ∷ []

abbrev pub fresh_order : List ℕ
fresh_order = 0 ∷ 1 ∷ 0 ∷ 0 ∷ 0 ∷ 6 ∷ 8 ∷ 0 ∷ 0 ∷ 0 ∷ 2 ∷ 3 ∷ 0 ∷ 0 ∷ 4 ∷ 5 ∷ []

abbrev pub fresh_shown : Certificate
fresh_shown = record { loads = fresh_loads; shares = []; order = fresh_order }

abbrev pub fresh : List Row
fresh =
    quoted (example 3) [] (by_depot 2) (4 ∷ 2 ∷ []) (3 ∷ 3 ∷ 0 ∷ 0 ∷ 0 ∷ 2 ∷ 2 ∷ 0 ∷ 0 ∷ 0 ∷ 1 ∷ 1 ∷ 0 ∷ 0 ∷ 2 ∷ 2 ∷ []) fresh_shown
    ∷ quoted (example 3) [] (by_period 3) (0 ∷ 0 ∷ 3 ∷ 3 ∷ []) (5 ∷ 5 ∷ 0 ∷ 0 ∷ 0 ∷ 3 ∷ 4 ∷ 0 ∷ 0 ∷ 0 ∷ 3 ∷ 4 ∷ 0 ∷ 0 ∷ 3 ∷ 4 ∷ []) fresh_shown ∷ []

-- The yard 3 cannot be owed 5, but 4. Where it is owed 3, the other depot still gets 3.
abbrev pub owing : List ℕ
owing = 0 ∷ 3 ∷ []

abbrev pub owing_rows : List Row
owing_rows =
    refused (example 3) (0 ∷ 5 ∷ []) (1 ∷ 1 ∷ 0 ∷ 0 ∷ 0 ∷ 1 ∷ 1 ∷ 0 ∷ 0 ∷ 0 ∷ 1 ∷ 1 ∷ [])
    ∷ served (example 3) (0 ∷ 4 ∷ [])
    (record { loads = 2 ∷ 2 ∷ 0 ∷ 0 ∷ 0 ∷ 0 ∷ 0 ∷ 0 ∷ 0 ∷ 2 ∷ 2 ∷ []; shares = 0 ∷ 0 ∷ 0 ∷ 0 ∷ 0 ∷ 0 ∷ 2 ∷ 2 ∷ []; order = [] })
    ∷ quoted (example 3) owing (by_depot 2) (3 ∷ 0 ∷ []) (3 ∷ 3 ∷ 0 ∷ 0 ∷ 0 ∷ 1 ∷ 1 ∷ 0 ∷ 0 ∷ 0 ∷ 1 ∷ 1 ∷ 0 ∷ 0 ∷ 1 ∷ 1 ∷ [])
    (record { loads = 3 ∷ 3 ∷ 0 ∷ 0 ∷ 0 ∷ 1 ∷ 2 ∷ 0 ∷ 0 ∷ 2 ∷ 1 ∷ []; shares = 0 ∷ 0 ∷ 0 ∷ 0 ∷ 0 ∷ 0 ∷ 2 ∷ 1 ∷ []; order = 0 ∷ 1 ∷ 0 ∷ 0 ∷ 0 ∷ 4 ∷ 6 ∷ 0 ∷ 0 ∷ 0 ∷ 2 ∷ 3 ∷ 0 ∷ 0 ∷ 9 ∷ 7 ∷ [] })
    ∷ quoted (example 3) owing (by_period 3) (0 ∷ 0 ∷ 2 ∷ 1 ∷ []) (5 ∷ 5 ∷ 0 ∷ 0 ∷ 0 ∷ 3 ∷ 4 ∷ 0 ∷ 0 ∷ 0 ∷ 3 ∷ 4 ∷ 0 ∷ 0 ∷ 3 ∷ 3 ∷ [])
    (record { loads = 3 ∷ 3 ∷ 0 ∷ 0 ∷ 0 ∷ 1 ∷ 1 ∷ 0 ∷ 0 ∷ 2 ∷ 2 ∷ []; shares = 0 ∷ 0 ∷ 0 ∷ 0 ∷ 0 ∷ 0 ∷ 1 ∷ 2 ∷ []; order = 0 ∷ 1 ∷ 0 ∷ 0 ∷ 0 ∷ 5 ∷ 8 ∷ 0 ∷ 0 ∷ 0 ∷ 2 ∷ 4 ∷ 0 ∷ 0 ∷ 3 ∷ 9 ∷ [] })
    ∷ []

-- With that owed, the first lane in the period 1 cannot be lowered to 0, but to 1; then the yard 2 cannot be owed 2, but 1.
abbrev pub lowered_loads : List ℕ
lowered_loads = 3 ∷ 1 ∷ 0 ∷ 0 ∷ 0 ∷ 1 ∷ 0 ∷ 0 ∷ 0 ∷ 2 ∷ 1 ∷ []

abbrev pub lowered : List Row
lowered =
    refused (example 0) owing (1 ∷ 1 ∷ 0 ∷ 0 ∷ 0 ∷ 1 ∷ 0 ∷ 0 ∷ 0 ∷ 0 ∷ 1 ∷ [])
    ∷ quoted (example 1) owing (by_depot 2) (1 ∷ 0 ∷ []) (3 ∷ 3 ∷ 0 ∷ 0 ∷ 0 ∷ 1 ∷ 0 ∷ 0 ∷ 0 ∷ 0 ∷ 1 ∷ [])
    (record { loads = lowered_loads; shares = 0 ∷ 0 ∷ 0 ∷ 0 ∷ 0 ∷ 0 ∷ 2 ∷ 1 ∷ []; order = 0 ∷ 1 ∷ 0 ∷ 0 ∷ 0 ∷ 3 ∷ 0 ∷ 0 ∷ 0 ∷ 0 ∷ 2 ∷ [] })
    ∷ refused (example 1) (2 ∷ 3 ∷ []) (1 ∷ 1 ∷ [])
    ∷ served (example 1) (1 ∷ 3 ∷ []) (record { loads = lowered_loads; shares = 0 ∷ 0 ∷ 1 ∷ 0 ∷ 0 ∷ 0 ∷ 2 ∷ 1 ∷ []; order = [] }) ∷ []

-- up to the period 1 nothing arrives, and no place is live
abbrev pub too_short : List Row
too_short = quoted short [] (by_depot 2) (0 ∷ 0 ∷ []) [] (record { loads = []; shares = []; order = [] }) ∷ []

-- All these rows hold.
abbrev pub ExampleHolds : Type 0
ExampleHolds = AllByRecursion Holds (fresh ++ owing_rows ++ lowered ++ too_short)
