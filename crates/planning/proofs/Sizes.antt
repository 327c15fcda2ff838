-- How large a day network can be.
use Rattle.std.proofs.Common.{ℕ, ◌≤◌, length, Option, arith}
use Rattle.timetable.specs.Plans.{Timetable, Sound}
use Rattle.timetable.specs.Quotes.{Ranking}
use Rattle.day_network.specs.DayNetwork.{day, departure_arc, depot_arc, owed_arc}
use Rattle.day_network.proofs.Arcs.{length_listed}

pub few_arcs : (S : Timetable) → Sound S → (owed : ℕ → ℕ) (R : Option Ranking) → length (day S owed R).arcs ≤ 5392
few_arcs S sound owed R = omega (arith, length_listed S (departure_arc S) (depot_arc S owed) (owed_arc owed), sound.few_lanes, sound.few_depots)
