-- The example, by computing.
use Rattle.std.proofs.Common.{◌++◌, refl}
use Rattle.timetable.specs.Example.{fresh, owing_rows, lowered, too_short, ExampleHolds}
use Rattle.timetable.proofs.Rows.{rows_hold}

pub example_holds_lem : ExampleHolds
example_holds_lem = rows_hold (fresh ++ owing_rows ++ lowered ++ too_short) refl
