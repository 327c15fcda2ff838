-- A day at a board.
use Rattle.std.specs.Prelude.{ℕ, Bool, true, false, List, None, Some, Option, replicate, slice_index_or, slice_set}
use Rattle.board.specs.States.{State, fresh, state_of}
use Rattle.session.specs.declared.session.Session.{Session}
use Rattle.session.specs.Names.{names_of}

-- The board, whether a record has opened it, and the names of the yards 0 to 31, of those that have one.
pub record Day : Type 0 where
  pub board : State
  pub opened : Bool
  pub names : List (Option (List ℕ))

-- a day begins with a board that is not opened, and with no name
abbrev pub beginning : Day
beginning = record { board = fresh 1 0; opened = false; names = replicate 32 None }

-- the name of a yard, if it has one
abbrev pub name_of : Day → ℕ → Option (List ℕ)
name_of d yard = slice_index_or d.names yard None

-- the day with another board, with its board opened, and with one yard named
abbrev pub with_board : Day → State → Day
with_board d b = record { board = b; opened = d.opened; names = d.names }

abbrev pub opened_as : Day → State → Day
opened_as d b = record { board = b; opened = true; names = d.names }

abbrev pub named : Day → ℕ → List ℕ → Day
named d yard name = record { board = d.board; opened = d.opened; names = slice_set d.names yard (Some name) }

-- what a day in memory is
abbrev pub day_of : Session → Day
day_of s = record { board = state_of s.board; opened = s.opened; names = names_of s.names }
