-- The marks of places, by those that a search gives the nodes of a day network.
use Rattle.std.specs.Prelude.{ℕ, suc, ◌+◌, ◌-◌, ◌*◌, List, ◌==◌, slice_index, if◌then◌else◌}
use Rattle.timetable.specs.Plans.{Timetable}
use Rattle.timetable.specs.Live.{is_live}

-- The mark of the place y@t, where there are so many ranks: 0 if it is not live; the highest at the origin, which is in every cut;
-- and else one less than the node's, since a search counts a cut for all owed beside those for the ranks.
abbrev pub mark_at : Timetable → ℕ → List ℕ → ℕ → ℕ → ℕ
mark_at S ranks found y t = if is_live S y t then (if y == S.origin then suc ranks else slice_index found (y * 48 + t) - 1) else 0
