-- The holds of a table as a list, and what each call answers and leaves of them.
use Rattle.std.specs.Prelude.{if◌then◌else◌, ◌≡◌, ℕ, ◌<◌, ◌≤◌, ◌&&◌, List, [], ◌∷◌, ◌++◌, length, take, Some, None, Ok, Err, Option, Result, ◌==◌, slice_get, slice_set}
use Rattle.std.specs.Option.{option_map, option_and_then}
use Rattle.slips.specs.declared.moves.Move.{Move}
use Rattle.slips.specs.declared.moves.Move.TheVariants.{To, Stay, Refused}
use Rattle.slips.specs.declared.moves.SlipCall.{SlipCall}
use Rattle.slips.specs.declared.moves.SlipCall.TheVariants.{PickUp}
use Rattle.slips.specs.declared.moves.SlipState.{SlipState}
use Rattle.slips.specs.declared.moves.SlipState.TheVariants.{InHand}
use Rattle.slips.specs.declared.refusal.Returned.{Returned}
use Rattle.slips.specs.declared.refusal.SlipRefusal.{SlipRefusal}
use Rattle.slips.specs.declared.refusal.SlipRefusal.TheVariants.{NoneLeft, NotAsNeeded}
use Rattle.slips.specs.declared.slip.Slip.{Slip}
use Rattle.slips.specs.declared.table.Entry.{Entry}
use Rattle.slips.specs.declared.table.SlipTable.{SlipTable}
use Rattle.slips.specs.Moves.{becomes}
use Rattle.slips.specs.Slips.{most_holds, slip_of}

-- the holds accepted so far: the hold of number n stands at place n, counted from 0
unfoldable pub holds : SlipTable → List Entry
holds t = take t.count t.entries

-- where the hold of a number stands, if the number was given
abbrev pub state_of : List Entry → ℕ → Option SlipState
state_of hs n = option_map (λ e. e.state) (slice_get hs n)

-- where a hold stands for a slip of its number: nowhere unless it has the slip's depot and pallets
abbrev pub stands_for : Slip → Entry → Option SlipState
stands_for s e = if s.depot == e.depot && s.pallets == e.pallets then Some e.state else None

-- where a slip's hold stands: the holds must have all three of its numbers
abbrev pub standing_of : List Entry → Slip → Option SlipState
standing_of hs s = option_and_then (stands_for s) (slice_get hs s.number)

-- the hold of a slip, standing so
abbrev pub entry_of : Slip → SlipState → Entry
entry_of s x = record { depot = s.depot; pallets = s.pallets; state = x }

-- what a hold answers and leaves: while a number is left it takes the next one, and stands in hand
abbrev pub Held : SlipTable → ℕ → ℕ → Result Slip SlipRefusal → SlipTable → Type 0
Held t d p (Ok s) t' =
    (length (holds t) < most_holds) × (s ≡ slip_of (length (holds t)) d p) × (holds t' ≡ holds t ++ entry_of s InHand ∷ [])
Held t d p (Err why) t' = (most_holds ≤ length (holds t)) × (why ≡ NoneLeft) × (t' ≡ t)

-- what a call with a slip answers and leaves, by what it makes of the slip's hold; a refusal hands the slip back
abbrev pub SpentBy : SlipTable → Slip → Move → Result Unit Returned → SlipTable → Type 0
SpentBy t s (To x) r t' = (r ≡ Ok tt) × (holds t' ≡ slice_set (holds t) s.number (entry_of s x))
SpentBy t s Stay r t' = (r ≡ Ok tt) × (t' ≡ t)
SpentBy t s Refused r t' = (r ≡ Err (record { why = NotAsNeeded; slip = s })) × (t' ≡ t)

-- the same by the call, which the table of moves decides
abbrev pub Spent : SlipCall → SlipTable → Slip → Result Unit Returned → SlipTable → Type 0
Spent c t s = SpentBy t s (becomes c (standing_of (holds t) s))

-- what picking up by number answers and leaves, by what it makes of that number's hold; the slip given has its numbers
abbrev pub PickedBy : SlipTable → ℕ → Move → Result Slip SlipRefusal → SlipTable → Type 0
PickedBy t n (To x) r t' =
    (s : Slip) × (s.number ≡ n) × (standing_of (holds t) s ≡ state_of (holds t) n) × (r ≡ Ok s) × (holds t' ≡ slice_set (holds t) n (entry_of s x))
PickedBy t n Stay r t' = (r ≡ Err NotAsNeeded) × (t' ≡ t)
PickedBy t n Refused r t' = (r ≡ Err NotAsNeeded) × (t' ≡ t)

-- the same, as the table of moves decides
abbrev pub PickedUp : SlipTable → ℕ → Result Slip SlipRefusal → SlipTable → Type 0
PickedUp t n = PickedBy t n (becomes PickUp (state_of (holds t) n))
