-- The rules of slip calls: what each request may find, what it is answered, and what it leaves.
use Rattle.std.specs.Prelude.{◌≡◌, ℕ, ◌+◌, ◌-◌, ◌<◌, ◌≤◌, List, [], ◌∷◌, ◌++◌, length, Some, vec_items, vec_len, vec_capacity, Vec, ◌≢◌, slice_get, slice_set}
use Rattle.std.specs.List.{remove}
use Rattle.std.specs.declared.alloc.Global.{Global}
use Rattle.slips.specs.declared.moves.Act.{Act}
use Rattle.slips.specs.declared.moves.Act.TheVariants.{Pin, Book, Release, TearUp}
use Rattle.slips.specs.declared.moves.SlipState.{SlipState}
use Rattle.slips.specs.declared.moves.SlipState.TheVariants.{InHand, Pinned, Booked, Released}
use Rattle.slips.specs.declared.refusal.SlipRefusal.TheVariants.{NoneLeft, NotAsNeeded}
use Rattle.slips.specs.declared.slip.Slip.{Slip}
use Rattle.slips.specs.declared.table.Entry.{Entry}
use Rattle.slips.specs.declared.table.SlipTable.{SlipTable}
use Rattle.slips.specs.Holds.{state_of, standing_of, entry_of}
use Rattle.slips.specs.Holds as table
use Rattle.slips.specs.Slips.{most_holds}
use Rattle.slip_runs.specs.declared.desk.Desk.{Desk}
use Rattle.slip_runs.specs.declared.request.Request.{Request}
use Rattle.slip_runs.specs.declared.request.Request.TheVariants.{Hold, PickUp, Give}
use Rattle.slip_runs.specs.declared.request.Answer.{Answer}
use Rattle.slip_runs.specs.declared.request.Answer.TheVariants.{Held, PickedUp, Spent, Refused, NoSlip}

-- the holds of a table, in the order of their numbers, and the slips of a hand
pub record World : Type 0 where
  pub holds : List Entry
  pub hand : List Slip

abbrev pub world_of : SlipTable → Vec Slip Global → World
world_of t h = record { holds = table.holds t; hand = vec_items h }

-- the same of a desk, and how many slips more its hand has places for
abbrev pub world_at : Desk → World
world_at d = world_of d.table d.hand

abbrev pub spare_places : Desk → ℕ
spare_places d = vec_capacity d.hand - vec_len d.hand

-- a fresh table, and the slips handed in
abbrev pub fresh : List Slip → World
fresh start = record { holds = []; hand = start }

-- the holds become hs, and a slip comes to the end of the hand
abbrev pub gains : World → List Entry → Slip → World
gains w hs s = record { holds = hs; hand = w.hand ++ s ∷ [] }

-- the holds become hs, and the slip at place i leaves the hand
abbrev pub loses : World → List Entry → ℕ → World
loses w hs i = record { holds = hs; hand = remove w.hand i }

-- the holds, with that of slip s standing so
abbrev pub moved : World → Slip → SlipState → List Entry
moved w s x = slice_set w.holds s.number (entry_of s x)

-- one request, its answer, and the world after it
pub data Step (w : World) : Request → Answer → World → Type 0 where
  -- a hold takes the next number while one is left, stands in hand, and gives its slip
  accepts : (s : Slip) → s.number ≡ length w.holds → length w.holds < most_holds
      → Step w (Hold s.depot s.pallets) (Held s.number) (gains w (w.holds ++ entry_of s InHand ∷ []) s)
  none_left : {d p : ℕ} → most_holds ≤ length w.holds → Step w (Hold d p) (Refused NoneLeft) w
  -- a pick-up by number needs the hold pinned, and gives its slip
  picks_up : (s : Slip) → standing_of w.holds s ≡ Some Pinned → Step w (PickUp s.number) PickedUp (gains w (moved w s InHand) s)
  not_pinned : {n : ℕ} → (state_of w.holds n ≢ Some Pinned) → Step w (PickUp n) (Refused NotAsNeeded) w
  -- pin, book and release need the slip at their place in hand, and spend it; one that is not in hand stays in its place
  pins : {i : ℕ} {s : Slip} → slice_get w.hand i ≡ Some s → standing_of w.holds s ≡ Some InHand
      → Step w (Give i Pin) (Spent s.number s.depot s.pallets) (loses w (moved w s Pinned) i)
  books : {i : ℕ} {s : Slip} → slice_get w.hand i ≡ Some s → standing_of w.holds s ≡ Some InHand
      → Step w (Give i Book) (Spent s.number s.depot s.pallets) (loses w (moved w s Booked) i)
  releases : {i : ℕ} {s : Slip} → slice_get w.hand i ≡ Some s → standing_of w.holds s ≡ Some InHand
      → Step w (Give i Release) (Spent s.number s.depot s.pallets) (loses w (moved w s Released) i)
  not_in_hand : {i : ℕ} {a : Act} {s : Slip} → slice_get w.hand i ≡ Some s → (standing_of w.holds s ≢ Some InHand) → (a ≢ TearUp)
      → Step w (Give i a) (Refused NotAsNeeded) w
  -- a tear-up needs the slip not in hand, spends it, and leaves the holds as they were
  tears_up : {i : ℕ} {s : Slip} → slice_get w.hand i ≡ Some s → (standing_of w.holds s ≢ Some InHand)
      → Step w (Give i TearUp) (Spent s.number s.depot s.pallets) (loses w w.holds i)
  in_hand : {i : ℕ} {s : Slip} → slice_get w.hand i ≡ Some s → standing_of w.holds s ≡ Some InHand
      → Step w (Give i TearUp) (Refused NotAsNeeded) w
  -- no place of the hand, no slip
  no_slip : {i : ℕ} {a : Act} → length w.hand ≤ i → Step w (Give i a) NoSlip w

-- a request at a desk: a step by the rules, that takes at most one of the spare places, in a hand that has as many places as before
pub record Turned (d : Desk) (r : Request) (a : Answer) (d' : Desk) : Type 0 where
  pub step : Step (world_at d) r a (world_at d')
  pub spare : spare_places d ≤ spare_places d' + 1
  pub places : vec_capacity d'.hand ≡ vec_capacity d.hand
