-- The table of moves: what each call makes of a hold.
use Rattle.std.specs.Prelude.{Some, None, Option}
use Rattle.slips.specs.declared.moves.SlipState.{SlipState}
use Rattle.slips.specs.declared.moves.SlipState.TheVariants.{InHand, Pinned, Booked, Released}
use Rattle.slips.specs.declared.moves.SlipCall.{SlipCall}
use Rattle.slips.specs.declared.moves.SlipCall.TheVariants.{PickUp, Spend}
use Rattle.slips.specs.declared.moves.Act.TheVariants.{Pin, Book, Release, TearUp}
use Rattle.slips.specs.declared.moves.Move.{Move}
use Rattle.slips.specs.declared.moves.Move.TheVariants.{To, Stay, Refused}

-- a row of a table, by where a hold stands: in hand, pinned, booked, released, or no such hold
abbrev pub row : {X : Type 0} → X → X → X → X → X → Option SlipState → X
row h p b r n (Some InHand) = h
row h p b r n (Some Pinned) = p
row h p b r n (Some Booked) = b
row h p b r n (Some Released) = r
row h p b r n None = n

-- what a call makes of a hold, by where it stands at present
abbrev pub becomes : SlipCall → Option SlipState → Move
becomes PickUp = row Refused (To InHand) Refused Refused Refused
becomes (Spend Pin) = row (To Pinned) Refused Refused Refused Refused
becomes (Spend Book) = row (To Booked) Refused Refused Refused Refused
becomes (Spend Release) = row (To Released) Refused Refused Refused Refused
becomes (Spend TearUp) = row Refused Stay Stay Stay Stay
