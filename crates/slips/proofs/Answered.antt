-- What an answer tells: the contracts of the calls, read back from what was answered.
use Rattle.std.proofs.Common.{◌≡◌, ℕ, ◌⊎◌, set, Some, None, Ok, Err, Option, refl, ◌∙◌, subst, inl, inr}
use Rattle.slips.specs.declared.moves.Move.TheVariants.{To, Stay, Refused}
use Rattle.slips.specs.declared.moves.Act.TheVariants.{TearUp}
use Rattle.slips.specs.declared.moves.SlipCall.TheVariants.{Spend}
use Rattle.slips.specs.declared.moves.SlipState.{SlipState}
use Rattle.slips.specs.declared.moves.SlipState.TheVariants.{InHand, Pinned, Booked, Released}
use Rattle.slips.specs.declared.refusal.Returned.{Returned}
use Rattle.slips.specs.declared.refusal.SlipRefusal.{SlipRefusal}
use Rattle.slips.specs.declared.refusal.SlipRefusal.TheVariants.{NotAsNeeded}
use Rattle.slips.specs.declared.slip.Slip.{Slip}
use Rattle.slips.specs.declared.table.SlipTable.{SlipTable}
use Rattle.slips.specs.Holds.{holds, state_of, standing_of, entry_of, Spent, SpentBy, PickedBy, PickedUp}
use Rattle.slips.specs.Moves.{row}

-- what a refusal hands back
abbrev pub back : Slip → Returned
back s = record { why = NotAsNeeded; slip = s }

-- the row of an act: what it says of a slip in hand, or else
pub hand_ways : {X : Type 0} (P : X → Type 0) (a b : X) (o : Option SlipState) → P (row a b b b b o)
    → ((o ≡ Some InHand) × P a) ⊎ ((o ≡ Some InHand → ⊥) × P b)
hand_ways P a b (Some InHand) p = inl (refl, p)
hand_ways P a b (Some Pinned) p = inr ((λ e. cc), p)
hand_ways P a b (Some Booked) p = inr ((λ e. cc), p)
hand_ways P a b (Some Released) p = inr ((λ e. cc), p)
hand_ways P a b None p = inr ((λ e. cc), p)

-- the row of pick up: what it says of a pinned hold, or else
pub pinned_ways : {X : Type 0} (P : X → Type 0) (a b : X) (o : Option SlipState) → P (row b a b b b o)
    → ((o ≡ Some Pinned) × P a) ⊎ ((o ≡ Some Pinned → ⊥) × P b)
pinned_ways P a b (Some InHand) p = inr ((λ e. cc), p)
pinned_ways P a b (Some Pinned) p = inl (refl, p)
pinned_ways P a b (Some Booked) p = inr ((λ e. cc), p)
pinned_ways P a b (Some Released) p = inr ((λ e. cc), p)
pinned_ways P a b None p = inr ((λ e. cc), p)

pub not_in_hand : {X : Type 0} (a b : X) (o : Option SlipState) → (o ≡ Some InHand → ⊥) → row a b b b b o ≡ b
not_in_hand a b o ne = elim (hand_ways (λ x. row a b b b b o ≡ x) a b o refl) [
  | inl w ↦ absurd (ne w.0)
  | inr w ↦ w.1
]

pub not_pinned : {X : Type 0} (a b : X) (o : Option SlipState) → (o ≡ Some Pinned → ⊥) → row b a b b b o ≡ b
not_pinned a b o ne = elim (pinned_ways (λ x. row b a b b b o ≡ x) a b o refl) [
  | inl w ↦ absurd (ne w.0)
  | inr w ↦ w.1
]

module _ (t t' : SlipTable) (s : Slip) where
  -- pin, book and release are accepted of a slip in hand
  pub taken : (x : SlipState) → SpentBy t s (row (To x) Refused Refused Refused Refused (standing_of (holds t) s)) (Ok tt) t'
      → (standing_of (holds t) s ≡ Some InHand) × (holds t' ≡ set (holds t) s.number (entry_of s x))
  taken x h = elim (hand_ways (λ m. SpentBy t s m (Ok tt) t') (To x) Refused (standing_of (holds t) s) h) [
    | inl w ↦ (w.0, w.1.1)
    | inr w ↦ cc
  ]

  -- and refused of any other
  pub not_taken : (x : SlipState) (b : Returned) → SpentBy t s (row (To x) Refused Refused Refused Refused (standing_of (holds t) s)) (Err b) t'
      → (standing_of (holds t) s ≡ Some InHand → ⊥) × (b ≡ back s) × (t' ≡ t)
  not_taken x b h = elim (hand_ways (λ m. SpentBy t s m (Err b) t') (To x) Refused (standing_of (holds t) s) h) [
    | inl w ↦ cc
    | inr w ↦ (w.0, (cc), w.1.1)
  ]

  -- a tear-up is accepted of a slip that is not in hand
  pub torn : Spent (Spend TearUp) t s (Ok tt) t' → (standing_of (holds t) s ≡ Some InHand → ⊥) × (t' ≡ t)
  torn h = elim (hand_ways (λ m. SpentBy t s m (Ok tt) t') Refused Stay (standing_of (holds t) s) h) [
    | inl w ↦ cc
    | inr w ↦ (w.0, w.1.1)
  ]

  -- and refused of one in hand
  pub not_torn : (b : Returned) → Spent (Spend TearUp) t s (Err b) t' → (standing_of (holds t) s ≡ Some InHand) × (b ≡ back s) × (t' ≡ t)
  not_torn b h = elim (hand_ways (λ m. SpentBy t s m (Err b) t') Refused Stay (standing_of (holds t) s) h) [
    | inl w ↦ (w.0, (cc), w.1.1)
    | inr w ↦ cc
  ]

module _ (t t' : SlipTable) (n : ℕ) where
  -- a pinned hold gives its slip, with its numbers
  pub picked : (s : Slip) → PickedUp t n (Ok s) t'
      → (s.number ≡ n) × (standing_of (holds t) s ≡ Some Pinned) × (holds t' ≡ set (holds t) n (entry_of s InHand))
  picked s h = elim (pinned_ways (λ m. PickedBy t n m (Ok s) t') (To InHand) Refused (state_of (holds t) n) h) [
    | inl w ↦ (
        let same : w.1.0 ≡ s = cc in
        subst (λ (u : Slip). (u.number ≡ n) × (standing_of (holds t) u ≡ Some Pinned) × (holds t' ≡ set (holds t) n (entry_of u InHand))) same
        (w.1.1, w.1.2 ∙ w.0, w.1.4))
    | inr w ↦ cc
  ]

  -- and any other gives none
  pub not_picked : (why : SlipRefusal) → PickedUp t n (Err why) t' → (state_of (holds t) n ≡ Some Pinned → ⊥) × (why ≡ NotAsNeeded) × (t' ≡ t)
  not_picked why h = elim (pinned_ways (λ m. PickedBy t n m (Err why) t') (To InHand) Refused (state_of (holds t) n) h) [
    | inl w ↦ cc
    | inr w ↦ (w.0, (cc), w.1.1)
  ]
