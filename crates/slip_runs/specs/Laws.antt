-- What holds of every list of slip calls.
use Rattle.std.specs.Prelude.{◌≡◌, ℕ, ◌+◌, ◌≤◌, List, length, take, drop, Some, Option, slice_get}
use Rattle.std.specs.List.{range_with_len}
use Rattle.slips.specs.declared.moves.SlipState.{SlipState}
use Rattle.slips.specs.declared.moves.SlipState.TheVariants.{InHand, Pinned, Booked, Released}
use Rattle.slips.specs.declared.slip.Slip.{Slip}
use Rattle.slips.specs.declared.table.Entry.{Entry}
use Rattle.slips.specs.Holds.{state_of, standing_of}
use Rattle.slips.specs.Moves.{row}
use Rattle.slips.specs.Owed.{owed_at}
use Rattle.slip_runs.specs.declared.request.Request.{Request}
use Rattle.slip_runs.specs.declared.request.Answer.{Answer}
use Rattle.slip_runs.specs.Deeds.{Deed, deeds, copies, torn, bookings, releases, given, promised, freed}
use Rattle.refusals.specs.Runs.{Ran}
use Rattle.slip_runs.specs.Rules.{World, Step, fresh}

-- 1 if a hold stands so, else 0
abbrev pub in_hand_count : Option SlipState → ℕ
in_hand_count = row 1 0 0 0 0

abbrev pub booked : Option SlipState → ℕ
booked = row 0 0 1 0 0

abbrev pub released : Option SlipState → ℕ
released = row 0 0 0 1 0

-- the laws at one moment: the hand at the start, what was done since, and the world now
pub record Laws (start : List Slip) (ds : List Deed) (w : World) : Type 0 where
  -- no slip is lost or doubled: the slips equal to s in the hand, with those torn up, are those of the start, and one
  -- more if the hold of s is in hand
  pub slips : (s : Slip) → copies s w.hand + torn s ds ≡ copies s start + in_hand_count (standing_of w.holds s)
  -- a hold is booked at most once: one booking was accepted if it stands booked, else none; and so for releases
  pub booked_once : (n : ℕ) → bookings n ds ≡ booked (state_of w.holds n)
  pub released_once : (n : ℕ) → releases n ds ≡ released (state_of w.holds n)
  -- no number is given twice: the numbers given are 0, 1, 2 and so on
  pub numbers : given ds ≡ range_with_len 0 (length w.holds)
  -- what is owed at a depot, with what was released there, is what was promised to it
  pub owed : (d : ℕ) → owed_at d w.holds + freed d ds ≡ promised d ds

-- booked and released are for good
abbrev pub Lasts : SlipState → SlipState → Type 0
Lasts InHand x = Unit {0}
Lasts Pinned x = Unit {0}
Lasts Booked x = x ≡ Booked
Lasts Released x = x ≡ Released

-- from a moment to a later one: each hold keeps its number, its depot and its pallets, and stays booked or released
abbrev pub Onward : List Entry → List Entry → Type 0
Onward before after = (n : ℕ) (e : Entry) → slice_get before n ≡ Some e
    → (x : SlipState) × (slice_get after n ≡ Some (record { depot = e.depot; pallets = e.pallets; state = x })) × Lasts e.state x

-- the theorem: from a fresh table and a starting hand, requests and answers lead by the rules to the world u, and the
-- laws hold at every moment
pub record Kept (start : List Slip) (rs : List Request) (said : List Answer) (u : World) : Type 0 where
  pub ran : Ran Step (fresh start) rs said u
  -- the rules leave no choice: no other answers and no other world could be
  pub only : (said' : List Answer) (u' : World) → Ran Step (fresh start) rs said' u' → (said ≡ said') × (u ≡ u')
  -- the world after the first k requests: they lead to it, and the others lead on from it
  pub at : ℕ → World
  pub before : (k : ℕ) → Ran Step (fresh start) (take k rs) (take k said) (at k)
  pub rest : (k : ℕ) → Ran Step (at k) (drop k rs) (drop k said) u
  -- the laws hold at every moment
  pub laws : (k : ℕ) → Laws start (deeds (take k rs) (take k said)) (at k)
  -- and from each moment to every later one
  pub onward : (j k : ℕ) → j ≤ k → Onward (at j).holds (at k).holds
