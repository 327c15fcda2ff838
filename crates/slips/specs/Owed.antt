-- What is owed at a depot, and how the calls change it.
use Rattle.std.specs.Prelude.{if◌then◌else◌, ◌≡◌, ℕ, ◌+◌, ◌*◌, ◌≤◌, List, Ok, All, sum_by, Result, ◌==◌, ◌≢◌}
use Rattle.slips.specs.declared.moves.SlipCall.{SlipCall}
use Rattle.slips.specs.declared.moves.SlipCall.TheVariants.{Spend}
use Rattle.slips.specs.declared.moves.Act.TheVariants.{Release}
use Rattle.slips.specs.declared.moves.SlipState.{SlipState}
use Rattle.slips.specs.declared.moves.SlipState.TheVariants.{InHand, Pinned, Booked, Released}
use Rattle.slips.specs.declared.refusal.Returned.{Returned}
use Rattle.slips.specs.declared.refusal.SlipRefusal.{SlipRefusal}
use Rattle.slips.specs.declared.slip.Slip.{Slip}
use Rattle.slips.specs.declared.table.Entry.{Entry}
use Rattle.slips.specs.declared.table.SlipTable.{SlipTable}
use Rattle.slips.specs.Holds.{holds, Held, Spent, PickedUp}
use Rattle.slips.specs.Slips.{most_holds}

-- pallets for the depot e, as they count at the depot d
abbrev pub count_at : ℕ → ℕ → ℕ → ℕ
count_at d e p = if e == d then p else 0

-- a released hold is owed no more
abbrev pub unless_released : SlipState → ℕ → ℕ
unless_released InHand p = p
unless_released Pinned p = p
unless_released Booked p = p
unless_released Released p = 0

-- what a hold adds to what is owed at a depot
abbrev pub owes : ℕ → Entry → ℕ
owes d e = unless_released e.state (count_at d e.depot e.pallets)

-- what is owed at a depot: the pallets of its holds, without those that are released
abbrev pub owed_at : ℕ → List Entry → ℕ
owed_at d hs = sum_by (owes d) hs

-- how the calls change what is owed at each depot d
pub record OwedLaws : Type 0 where
  -- an accepted hold of p pallets for the depot e adds them at e, and nothing elsewhere
  pub held : (d e p : ℕ) (t t' : SlipTable) (s : Slip) → Held t e p (Ok s) t'
      → owed_at d (holds t') ≡ owed_at d (holds t) + count_at d e p
  -- an accepted release takes the slip's pallets away at its depot, and nothing elsewhere
  pub released : (d : ℕ) (t t' : SlipTable) (s : Slip) → Spent (Spend Release) t s (Ok tt) t'
      → owed_at d (holds t) ≡ owed_at d (holds t') + count_at d s.depot s.pallets
  -- no other call with a slip changes it, nor does picking up
  pub kept : (d : ℕ) (c : SlipCall) (t t' : SlipTable) (s : Slip) (r : Result Unit Returned) → (c ≢ Spend Release) → Spent c t s r t'
      → owed_at d (holds t') ≡ owed_at d (holds t)
  pub picked : (d n : ℕ) (t t' : SlipTable) (r : Result Slip SlipRefusal) → PickedUp t n r t'
      → owed_at d (holds t') ≡ owed_at d (holds t)
  -- it is at most the pallets of the largest hold, times the holds that a table takes
  pub most : (d p : ℕ) (t : SlipTable) → All (λ e. e.pallets ≤ p) (holds t) → owed_at d (holds t) ≤ most_holds * p
