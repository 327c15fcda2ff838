-- The numbers of the refusals, and how a list of rules decides on a call.
use Rattle.std.specs.Prelude.{◌≡◌, ℕ, ◌⊎◌, List, [], ◌∷◌, Some, None, Option}
use Rattle.refusals.specs.declared.Refusal.{Refusal}
use Rattle.refusals.specs.declared.Refusal.TheVariants.{BadHorizon, BadYard, BadTransit, BadCapacity, BadPallets, BadEnds, ListTooShort, NoneLeft, NoDeparture, NoDepot, NamedBefore, NotAsNeeded, NoPlan}

abbrev pub number_of : Refusal → ℕ
number_of BadHorizon = 1
number_of BadYard = 2
number_of BadTransit = 3
number_of BadCapacity = 4
number_of BadPallets = 5
number_of BadEnds = 6
number_of ListTooShort = 12
number_of NoneLeft = 13
number_of NoDeparture = 14
number_of NoDepot = 15
number_of NamedBefore = 16
number_of NotAsNeeded = 17
number_of NoPlan = 18

-- a refusal, and the condition under which it is due
pub record Rule : Type 1 where
  pub why : Refusal
  pub due : Type 0

abbrev pub rule : Refusal → Type 0 → Rule
rule why due = record { why = why; due = due }

-- The first rule whose condition holds decides: its refusal is given. Where none holds, the call is accepted.
abbrev pub Decides : List Rule → Option Refusal → Type 0
Decides [] r = r ≡ None
Decides (x ∷ xs) r = (x.due × (r ≡ Some x.why)) ⊎ ((x.due → ⊥) × Decides xs r)
