-- How a day network is made.
use Rattle.std.specs.Prelude.{◌≡◌, ℕ, Bool, not, List, length, Some, None, Ok, Err, Option, Result, ◌==◌, nat_le, if◌then◌else◌}
use Rattle.std.specs.List.{list_all}
use Rattle.expanded.specs.declared.schedule.Schedule.{Schedule}
use Rattle.expanded.specs.declared.day.DayNetwork.{DayNetwork}
use Rattle.expanded.specs.declared.day.making.OwedError.{OwedError}
use Rattle.expanded.specs.declared.day.making.OwedError.TheVariants.{NotByDepot, TooMuch}

-- what can be owed at a depot: 512 holds of 9,999 pallets
abbrev pub is_within : ℕ → Bool
is_within n = nat_le n 5119488

-- what is wrong with what is owed, if anything is
abbrev pub owed_fault : Schedule → List ℕ → Option OwedError
owed_fault s owed =
    if not (length owed == length s.depots.now) then Some NotByDepot
    else if not (list_all is_within owed) then Some TooMuch
    else None

-- The day network has the timetable, what is owed and the ranking that it is made of; or what is wrong is told.
abbrev pub Shows : {R : Type 0} → Schedule → List ℕ → Option R → Result (DayNetwork R) OwedError → Type 0
Shows s owed ranking (Ok n) = (owed_fault s owed ≡ None) × (n.schedule ≡ s) × (n.owed.now ≡ owed) × (n.ranking ≡ ranking)
Shows s owed ranking (Err e) = owed_fault s owed ≡ Some e
