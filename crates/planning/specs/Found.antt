-- What a planner holds once a network was searched.
use Rattle.std.specs.Prelude.{ℕ, length, take, vec_items}
use Rattle.flow.specs.Network.{Network}
use Rattle.search.specs.Served.{Served}
use Rattle.planning.specs.declared.planner.Planner.{Planner}

-- So many ranks are served by its loads, marks and figures.
abbrev pub Found : Network → ℕ → Planner → Type 0
Found N ranks p = Served N ranks (take (length N.arcs) (vec_items p.loads)) (vec_items p.marks) (take ranks (vec_items p.figures))
