-- The numbers of the refusals.
use Rattle.std.specs.Prelude.{ℕ}
use Rattle.slips.specs.declared.refusal.SlipRefusal.{SlipRefusal}
use Rattle.slips.specs.declared.refusal.SlipRefusal.TheVariants.{NoneLeft, NotAsNeeded}

-- 13: the table is full; 17: the slip does not stand as the call needs
abbrev pub refusal_number : SlipRefusal → ℕ
refusal_number NoneLeft = 13
refusal_number NotAsNeeded = 17
