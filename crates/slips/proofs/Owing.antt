-- What is owed, hold by hold and call by call.
use Rattle.std.proofs.Common.{◌≡◌, ℕ, ◌+◌, ◌*◌, ◌≤◌, List, [], ◌∷◌, ◌++◌, length, set, Some, Ok, Err, Result, sym, refl, ap, ◌∙◌, subst, inl, inr, mul-le-mul_right, arith}
use Rattle.std.specs.List.{All}
use Rattle.std.proofs.lemmas.Bool.Decides.{nat_tests}
use Rattle.std.proofs.lemmas.List.Sums.{sum_by-le, sum_by_push, sum_by-set}
use Rattle.slips.specs.declared.moves.Move.TheVariants.{To, Stay, Refused}
use Rattle.slips.specs.declared.moves.SlipCall.{SlipCall}
use Rattle.slips.specs.declared.moves.Act.TheVariants.{Pin, Book, Release, TearUp}
use Rattle.slips.specs.declared.moves.SlipCall.TheVariants.{PickUp, Spend}
use Rattle.slips.specs.declared.moves.SlipState.{SlipState}
use Rattle.slips.specs.declared.moves.SlipState.TheVariants.{InHand, Pinned, Booked, Released}
use Rattle.slips.specs.declared.refusal.Returned.{Returned}
use Rattle.slips.specs.declared.refusal.SlipRefusal.{SlipRefusal}
use Rattle.slips.specs.declared.slip.Slip.{Slip}
use Rattle.slips.specs.declared.table.Entry.{Entry}
use Rattle.slips.specs.declared.table.SlipTable.{SlipTable}
use Rattle.slips.specs.Holds.{holds, standing_of, entry_of, Held, Spent, SpentBy, PickedUp}
use Rattle.slips.specs.Moves.{row}
use Rattle.slips.specs.Owed.{count_at, unless_released, owes, owed_at, OwedLaws}
use Rattle.slips.proofs.Answered.{hand_ways, pinned_ways, taken, picked, not_picked}
use Rattle.std.proofs.lemmas.Option.{get_or_from_slice_get, slice_get_within}
use Rattle.slips.proofs.Tables.{holds_most, stands}

-- a hold at the end adds what it owes
pub owed_push : (d : ℕ) (hs : List Entry) (e : Entry) → owed_at d (hs ++ e ∷ []) ≡ owed_at d hs + owes d e
owed_push d hs e = sum_by_push (owes d) hs e

-- a slip's hold that comes from standing y to standing x takes away what it owed and adds what it owes
pub owed_move : (d : ℕ) (hs : List Entry) (s : Slip) (x y : SlipState) → standing_of hs s ≡ Some y
    → owed_at d (set hs s.number (entry_of s x)) + owes d (entry_of s y) ≡ owed_at d hs + owes d (entry_of s x)
owed_move d hs s x y e =
    let at = stands hs s y e in
    let lt = slice_get_within hs s.number (entry_of s y) at in
    subst (λ (h : Entry). owed_at d (set hs s.number (entry_of s x)) + owes d h ≡ owed_at d hs + owes d (entry_of s x))
    (get_or_from_slice_get hs s.number (entry_of s y) (entry_of s y) at)
    (sum_by-set (owes d) hs s.number (entry_of s x) (entry_of s y) lt)

same_owed : (d : ℕ) (t t' : SlipTable) → t' ≡ t → owed_at d (holds t') ≡ owed_at d (holds t)
same_owed d t t' e = ap (λ (u : SlipTable). owed_at d (holds u)) e

-- a move between states in which a hold is owed
move_kept : (d : ℕ) (hs hs' : List Entry) (s : Slip) (x y : SlipState) → standing_of hs s ≡ Some y → hs' ≡ set hs s.number (entry_of s x)
    → owes d (entry_of s x) ≡ owes d (entry_of s y) → owed_at d hs' ≡ owed_at d hs
move_kept d hs hs' s x y e f g = omega (arith, owed_move d hs s x y e, ap (owed_at d) f)

held_owed : (d e p : ℕ) (t t' : SlipTable) (s : Slip) → Held t e p (Ok s) t' → owed_at d (holds t') ≡ owed_at d (holds t) + count_at d e p
held_owed d e p t t' s h =
    ap (owed_at d) h.2 ∙ owed_push d (holds t) (entry_of s InHand) ∙ ap (λ (u : Slip). owed_at d (holds t) + count_at d u.depot u.pallets) h.1

released_owed : (d : ℕ) (t t' : SlipTable) (s : Slip) → Spent (Spend Release) t s (Ok tt) t'
    → owed_at d (holds t) ≡ owed_at d (holds t') + count_at d s.depot s.pallets
released_owed d t t' s h =
    let w = taken t t' s Released h in
    omega (arith, owed_move d (holds t) s Released InHand w.0, ap (owed_at d) w.1)

-- a call that is accepted of a slip in hand, and leaves the hold owed
hand_kept : (d : ℕ) (t t' : SlipTable) (s : Slip) (r : Result Unit Returned) (x : SlipState) → owes d (entry_of s x) ≡ owes d (entry_of s InHand)
    → SpentBy t s (row (To x) Refused Refused Refused Refused (standing_of (holds t) s)) r t' → owed_at d (holds t') ≡ owed_at d (holds t)
hand_kept d t t' s r x same h = elim (hand_ways (λ m. SpentBy t s m r t') (To x) Refused (standing_of (holds t) s) h) [
  | inl w ↦ move_kept d (holds t) (holds t') s x InHand w.0 w.1.1 same
  | inr w ↦ same_owed d t t' w.1.1
]

kept_owed : (d : ℕ) (c : SlipCall) (t t' : SlipTable) (s : Slip) (r : Result Unit Returned) → (c ≡ Spend Release → ⊥) → Spent c t s r t'
    → owed_at d (holds t') ≡ owed_at d (holds t)
kept_owed d (Spend Pin) t t' s r ne h = hand_kept d t t' s r Pinned refl h
kept_owed d PickUp t t' s r ne h = elim (pinned_ways (λ m. SpentBy t s m r t') (To InHand) Refused (standing_of (holds t) s) h) [
  | inl w ↦ move_kept d (holds t) (holds t') s InHand Pinned w.0 w.1.1 refl
  | inr w ↦ same_owed d t t' w.1.1
]
kept_owed d (Spend Book) t t' s r ne h = hand_kept d t t' s r Booked refl h
kept_owed d (Spend Release) t t' s r ne h = absurd (ne refl)
kept_owed d (Spend TearUp) t t' s r ne h = elim (hand_ways (λ m. SpentBy t s m r t') Refused Stay (standing_of (holds t) s) h) [
  | inl w ↦ same_owed d t t' w.1.1
  | inr w ↦ same_owed d t t' w.1.1
]

picked_owed : (d n : ℕ) (t t' : SlipTable) (r : Result Slip SlipRefusal) → PickedUp t n r t' → owed_at d (holds t') ≡ owed_at d (holds t)
picked_owed d n t t' (Ok s) h =
    let w = picked t t' n s h in
    move_kept d (holds t) (holds t') s InHand Pinned w.1 (w.2 ∙ ap (λ (k : ℕ). set (holds t) k (entry_of s InHand)) (sym w.0)) refl
picked_owed d n t t' (Err why) h = same_owed d t t' (not_picked t t' n why h).2

state_most : (x : SlipState) (q p : ℕ) → q ≤ p → unless_released x q ≤ p
state_most InHand q p h = h
state_most Pinned q p h = h
state_most Booked q p h = h
state_most Released q p h = omega arith

owes_most : (d p : ℕ) (e : Entry) → e.pallets ≤ p → owes d e ≤ p
owes_most d p e h = state_most e.state (count_at d e.depot e.pallets) p (grind (arith, nat_tests))

-- holds of at most p pallets each
pub owed_at_most : (d p : ℕ) (hs : List Entry) → All (λ e. e.pallets ≤ p) hs → owed_at d hs ≤ length hs * p
owed_at_most d p hs each = sum_by-le (owes d) p hs (λ k e lt. owes_most d p _ (each k e lt))

pub owed_most : (d p : ℕ) (hs : List Entry) → length hs ≤ 512 → All (λ e. e.pallets ≤ p) hs → owed_at d hs ≤ 512 * p
owed_most d p hs few each = omega (arith, mul-le-mul_right p few, owed_at_most d p hs each)

pub owed_laws : OwedLaws
owed_laws = record {
  held = held_owed;
  released = released_owed;
  kept = kept_owed;
  picked = picked_owed;
  most = λ d p t each. owed_most d p (holds t) (holds_most t) each;
}
