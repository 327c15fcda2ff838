-- The numbers, the layers and the positions of the faults.
use Rattle.std.specs.Prelude.{ℕ}
use Rattle.dayfile.specs.declared.fault.Layer.{Layer}
use Rattle.dayfile.specs.declared.fault.Layer.TheVariants as layer
use Rattle.dayfile.specs.declared.fault.Position.{Position}
use Rattle.dayfile.specs.declared.fault.FileFault.{FileFault}
use Rattle.dayfile.specs.declared.fault.FileFault.TheVariants.{UnknownMark, CutShort, TooLong}
use Rattle.dayfile.specs.declared.fault.RecordFault.{RecordFault}
use Rattle.dayfile.specs.declared.fault.RecordFault.TheVariants.{File, BadName, NoRanking, OutOfTurn}

-- the n-th record, which begins at offset p
abbrev pub place : ℕ → ℕ → Position
place n p = record { nth = n; offset = p }

abbrev pub file_number : FileFault → ℕ
file_number (UnknownMark at) = 7
file_number (CutShort at) = 8
file_number TooLong = 10

abbrev pub record_number : RecordFault → ℕ
record_number (File f) = file_number f
record_number (BadName at) = 9
record_number (NoRanking at) = 11
record_number (OutOfTurn at) = 19

abbrev pub record_layer : RecordFault → Layer
record_layer (File f) = layer.File
record_layer (BadName at) = layer.Record
record_layer (NoRanking at) = layer.Record
record_layer (OutOfTurn at) = layer.Record

-- a file that is too long is a fault of no record
abbrev pub file_position : FileFault → Position
file_position (UnknownMark at) = at
file_position (CutShort at) = at
file_position TooLong = place 0 0

abbrev pub record_position : RecordFault → Position
record_position (File f) = file_position f
record_position (BadName at) = at
record_position (NoRanking at) = at
record_position (OutOfTurn at) = at
