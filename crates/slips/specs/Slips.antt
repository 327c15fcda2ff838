-- A slip by its three numbers, and how many a table gives.
use Rattle.std.specs.Prelude.{ℕ}
use Rattle.slips.specs.declared.slip.Slip.{Slip}

-- the slip with this number, depot and pallets
abbrev pub slip_of : ℕ → ℕ → ℕ → Slip
slip_of n d p = record { number = n; depot = d; pallets = p }

-- how many holds a table takes
abbrev pub most_holds : ℕ
most_holds = 512
