-- What requests did with slips, as their answers tell, and how often.
use Rattle.std.specs.Prelude.{ℕ, Bool, true, false, if◌then◌else◌, ◌&&◌, List, [], ◌∷◌, sum_by, count_by, ◌==◌, nat_eq}
use Rattle.slips.specs.declared.slip.Slip.{Slip}
use Rattle.slips.specs.Owed.{count_at}
use Rattle.slips.specs.Slips.{slip_of}
use Rattle.slips.specs.declared.moves.Act.{Act}
use Rattle.slips.specs.declared.moves.Act.TheVariants.{Pin, Book, Release, TearUp}
use Rattle.slip_runs.specs.declared.request.Request.{Request}
use Rattle.slip_runs.specs.declared.request.Request.TheVariants.{Hold, PickUp, Give}
use Rattle.slip_runs.specs.declared.request.Answer.{Answer}
use Rattle.slip_runs.specs.declared.request.Answer.TheVariants.{Held, PickedUp, Spent, Refused, NoSlip}

-- nothing; a hold was accepted, with this slip; the slip of a number was picked up; a slip was spent by an act
pub data Deed : Type 0 where
  nothing : Deed
  held : Slip → Deed
  picked_up : ℕ → Deed
  spent : Act → Slip → Deed

-- an accepted request, with what its answer tells
abbrev pub held_by : Request → ℕ → Deed
held_by (Hold d p) n = held (slip_of n d p)
held_by (PickUp k) n = nothing
held_by (Give i a) n = nothing

abbrev pub picked_by : Request → Deed
picked_by (Hold d p) = nothing
picked_by (PickUp n) = picked_up n
picked_by (Give i a) = nothing

abbrev pub spent_by : Request → Slip → Deed
spent_by (Hold d p) s = nothing
spent_by (PickUp n) s = nothing
spent_by (Give i a) s = spent a s

-- what a request did, as its answer tells
abbrev pub deed : Request → Answer → Deed
deed r (Held n) = held_by r n
deed r PickedUp = picked_by r
deed r (Spent n d p) = spent_by r (slip_of n d p)
deed r (Refused why) = nothing
deed r NoSlip = nothing

abbrev pub deeds : List Request → List Answer → List Deed
deeds [] said = []
deeds (r ∷ rs) [] = []
deeds (r ∷ rs) (a ∷ said) = deed r a ∷ deeds rs said

-- whether two slips have the same three numbers
abbrev pub same : Slip → Slip → Bool
same s t = s.number == t.number && (s.depot == t.depot && s.pallets == t.pallets)

-- how many slips of a hand equal s
abbrev pub copies : Slip → List Slip → ℕ
copies s hand = count_by (same s) hand

abbrev pub is_book : Act → Bool
is_book Pin = false
is_book Book = true
is_book Release = false
is_book TearUp = false

abbrev pub is_release : Act → Bool
is_release Pin = false
is_release Book = false
is_release Release = true
is_release TearUp = false

abbrev pub is_tear_up : Act → Bool
is_tear_up Pin = false
is_tear_up Book = false
is_tear_up Release = false
is_tear_up TearUp = true

-- whether a slip that passes the test q was spent by an act that passes the test b
abbrev pub spends : (Act → Bool) → (Slip → Bool) → Deed → Bool
spends b q nothing = false
spends b q (held s) = false
spends b q (picked_up n) = false
spends b q (spent a s) = b a && q s

-- how many slips equal to s were torn up
abbrev pub torn : Slip → List Deed → ℕ
torn s ds = count_by (spends is_tear_up (same s)) ds

-- how many bookings of the number n were accepted, and how many releases
abbrev pub bookings : ℕ → List Deed → ℕ
bookings n ds = count_by (spends is_book (λ s. nat_eq n s.number)) ds

abbrev pub releases : ℕ → List Deed → ℕ
releases n ds = count_by (spends is_release (λ s. nat_eq n s.number)) ds

-- the numbers of the accepted holds, in their order
abbrev pub given : List Deed → List ℕ
given [] = []
given (nothing ∷ ds) = given ds
given (held s ∷ ds) = s.number ∷ given ds
given (picked_up n ∷ ds) = given ds
given (spent a s ∷ ds) = given ds

-- the pallets of the accepted holds for the depot d, and those of its accepted releases
abbrev pub promises : ℕ → Deed → ℕ
promises d nothing = 0
promises d (held s) = count_at d s.depot s.pallets
promises d (picked_up n) = 0
promises d (spent a s) = 0

abbrev pub promised : ℕ → List Deed → ℕ
promised d ds = sum_by (promises d) ds

abbrev pub frees : ℕ → Deed → ℕ
frees d nothing = 0
frees d (held s) = 0
frees d (picked_up n) = 0
frees d (spent a s) = if is_release a then count_at d s.depot s.pallets else 0

abbrev pub freed : ℕ → List Deed → ℕ
freed d ds = sum_by (frees d) ds
