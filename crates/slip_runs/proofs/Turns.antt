-- What the calls on a table ensure are steps by the rules.
use Rattle.std.proofs.Common.{◌≡◌, ℕ, List, [], ◌∷◌, ◌++◌, length, set, Some, Ok, Err, sym, refl, ap, ◌∙◌, subst}
use Rattle.std.specs.List.{slice_get, insert, remove}
use Rattle.slips.specs.declared.moves.SlipCall.TheVariants.{Spend}
use Rattle.slips.specs.declared.moves.SlipState.TheVariants.{InHand, Pinned, Booked, Released}
use Rattle.slips.specs.declared.refusal.Returned.{Returned}
use Rattle.slips.specs.declared.refusal.SlipRefusal.{SlipRefusal}
use Rattle.slips.specs.declared.slip.Slip.{Slip}
use Rattle.slips.specs.declared.table.Entry.{Entry}
use Rattle.slips.specs.declared.table.SlipTable.{SlipTable}
use Rattle.slips.specs.Holds.{holds, entry_of, Held, PickedUp, Spent}
use Rattle.slips.specs.Slips.{slip_of}
use Rattle.slips.proofs.Hands.{put_again}
use Rattle.slips.proofs.Answered.{back, taken, not_taken, torn, not_torn, picked, not_picked}
use Rattle.slips.specs.declared.moves.Act.{Act}
use Rattle.slips.specs.declared.moves.Act.TheVariants.{Pin, Book, Release, TearUp}
use Rattle.slip_runs.specs.declared.request.Request.{Request}
use Rattle.slip_runs.specs.declared.request.Request.TheVariants.{Hold, PickUp, Give}
use Rattle.slip_runs.specs.declared.request.Answer.{Answer}
use Rattle.slip_runs.specs.declared.request.Answer.TheVariants as answer
use Rattle.slip_runs.specs.Rules.{World, Step}

abbrev made : List Entry → List Slip → World
made hs h = record { holds = hs; hand = h }

made_same : {hs hs' : List Entry} {h h' : List Slip} → hs ≡ hs' → h ≡ h' → made hs h ≡ made hs' h'
made_same p q = λ i. record { holds = p i; hand = q i }

-- a step, with its answer and the world after it written another way
rewritten : {w m m' : World} {r : Request} {a a' : Answer} → Step w r a m → a ≡ a' → m ≡ m' → Step w r a' m'
rewritten {w} {m} {m'} {r} {a} {a'} s p q = subst (λ (v : World). Step w r a' v) q (subst (λ (b : Answer). Step w r b m) p s)

module _ (t t' : SlipTable) (h : List Slip) where
  pub hold_step : (d p : ℕ) (s : Slip) (n : ℕ) (h' : List Slip) → Held t d p (Ok s) t' → n ≡ s.number → h' ≡ h ++ s ∷ []
      → Step (made (holds t) h) (Hold d p) (answer.Held n) (made (holds t') h')
  hold_step d p s n h' e number more =
      let slip = sym e.1 in
      rewritten (Step.accepts (slip_of (length (holds t)) d p) refl e.0)
      (ap (λ (u : Slip). answer.Held u.number) slip ∙ ap answer.Held (sym number))
      (made_same
      (ap (λ (u : Slip). holds t ++ entry_of u InHand ∷ []) slip ∙ sym e.2)
      (ap (λ (u : Slip). h ++ u ∷ []) slip ∙ sym more))

  pub full_step : (d p : ℕ) (why : SlipRefusal) → Held t d p (Err why) t' → Step (made (holds t) h) (Hold d p) (answer.Refused why) (made (holds t') h)
  full_step d p why e = rewritten (Step.none_left e.0) (ap answer.Refused (sym e.1)) (made_same (ap holds (sym e.2)) refl)

  pub pick_step : (n : ℕ) (s : Slip) (h' : List Slip) → PickedUp t n (Ok s) t' → h' ≡ h ++ s ∷ []
      → Step (made (holds t) h) (PickUp n) answer.PickedUp (made (holds t') h')
  pick_step n s h' e more =
      let w = picked t t' n s e in
      subst (λ (k : ℕ). Step (made (holds t) h) (PickUp k) answer.PickedUp (made (holds t') h')) w.0
      (rewritten (Step.picks_up s w.1) refl
      (made_same (ap (λ (k : ℕ). set (holds t) k (entry_of s InHand)) w.0 ∙ sym w.2) (sym more)))

  pub unpinned_step : (n : ℕ) (why : SlipRefusal) → PickedUp t n (Err why) t' → Step (made (holds t) h) (PickUp n) (answer.Refused why) (made (holds t') h)
  unpinned_step n why e =
      let w = not_picked t t' n why e in
      rewritten (Step.not_pinned w.0) (ap answer.Refused (sym w.1)) (made_same (ap holds (sym w.2)) refl)

  module _ (i : ℕ) (s : Slip) (at : slice_get h i ≡ Some s) where
    spend_rule : (a : Act) → Spent (Spend a) t s (Ok tt) t'
        → Step (made (holds t) h) (Give i a) (answer.Spent s.number s.depot s.pallets) (made (holds t') (remove h i))
    spend_rule Pin e = let w = taken t t' s Pinned e in rewritten (Step.pins at w.0) refl (made_same (sym w.1) refl)
    spend_rule Book e = let w = taken t t' s Booked e in rewritten (Step.books at w.0) refl (made_same (sym w.1) refl)
    spend_rule Release e = let w = taken t t' s Released e in rewritten (Step.releases at w.0) refl (made_same (sym w.1) refl)
    spend_rule TearUp e = let w = torn t t' s e in rewritten (Step.tears_up at w.0) refl (made_same (ap holds (sym w.1)) refl)

    pub spend_step : (a : Act) (n d p : ℕ) (h' : List Slip) → Spent (Spend a) t s (Ok tt) t'
        → n ≡ s.number → d ≡ s.depot → p ≡ s.pallets → h' ≡ remove h i
        → Step (made (holds t) h) (Give i a) (answer.Spent n d p) (made (holds t') h')
    spend_step a n d p h' e number depot pallets rest =
        rewritten (spend_rule a e) (λ j. answer.Spent (sym number j) (sym depot j) (sym pallets j)) (made_same refl (sym rest))

    -- a refused act leaves the holds, and its slip is back in its place
    module _ (b : Returned) (h' : List Slip) (put : h' ≡ insert (remove h i) i b.slip) where
      refused : (a : Act) → Step (made (holds t) h) (Give i a) (answer.Refused (back s).why) (made (holds t) h) → b ≡ back s → t' ≡ t
          → Step (made (holds t) h) (Give i a) (answer.Refused b.why) (made (holds t') h')
      refused a step e f =
          rewritten step (ap (λ (x : Returned). answer.Refused x.why) (sym e))
          (made_same (ap holds (sym f)) (sym (put ∙ ap (λ (x : Returned). insert (remove h i) i x.slip) e ∙ put_again h i s at)))

      pub refuse_step : (a : Act) → Spent (Spend a) t s (Err b) t' → Step (made (holds t) h) (Give i a) (answer.Refused b.why) (made (holds t') h')
      refuse_step Pin e = let w = not_taken t t' s Pinned b e in refused Pin (Step.not_in_hand at w.0 (λ f. cc)) w.1 w.2
      refuse_step Book e = let w = not_taken t t' s Booked b e in refused Book (Step.not_in_hand at w.0 (λ f. cc)) w.1 w.2
      refuse_step Release e = let w = not_taken t t' s Released b e in refused Release (Step.not_in_hand at w.0 (λ f. cc)) w.1 w.2
      refuse_step TearUp e = let w = not_torn t t' s b e in refused TearUp (Step.in_hand at w.0) w.1 w.2
