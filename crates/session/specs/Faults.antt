-- The numbers, the layers and the positions of the faults of a day.
use Rattle.std.specs.Prelude.{ℕ}
use Rattle.dayfile.specs.declared.fault.Layer.{Layer}
use Rattle.dayfile.specs.declared.fault.Layer.TheVariants as layer
use Rattle.dayfile.specs.declared.fault.Position.{Position}
use Rattle.dayfile.specs.Faults.{record_number, record_layer, record_position}
use Rattle.refusals.specs.Refusals.{number_of}
use Rattle.session.specs.declared.fault.DayFault.{DayFault}
use Rattle.session.specs.declared.fault.DayFault.TheVariants.{Record, Board}

abbrev pub day_number : DayFault → ℕ
day_number (Record f) = record_number f
day_number (Board why at) = number_of why

abbrev pub day_layer : DayFault → Layer
day_layer (Record f) = record_layer f
day_layer (Board why at) = layer.Board

abbrev pub day_position : DayFault → Position
day_position (Record f) = record_position f
day_position (Board why at) = at
