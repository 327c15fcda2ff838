-- What a run sheet is: a board, and a list with the loads that are still to be taken off.
use Rattle.std.specs.Prelude.{ℕ, List}
use Rattle.std.specs.Borrow.{GName}
use Rattle.board.specs.States.{State, state_of}
use Rattle.run_sheet.specs.declared.sheet.RunSheet.{RunSheet}

abbrev pub state_in : RunSheet → State
state_in sheet = state_of sheet.board.now

abbrev pub loads_in : RunSheet → List ℕ
loads_in sheet = sheet.loads.now

-- which list was handed in: what the sheet leaves in it is then in that list
abbrev pub list_in : RunSheet → GName
list_in sheet = sheet.loads.ghost_name
