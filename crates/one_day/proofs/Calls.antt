-- The calls on a board leave no choice.
use Rattle.std.proofs.Common.{◌≡◌, ℕ, List, [], ◌∷◌, length, inl, inr, None, Some, Ok, Err, Option, Result, sym, refl, ap, ◌∙◌}
use Rattle.std.specs.List.{slice_get}
use Rattle.timetable.specs.declared.Lane.{Lane}
use Rattle.refusals.specs.declared.Refusal.{Refusal}
use Rattle.refusals.specs.Refusals.{Rule, rule, Decides}
use Rattle.refusals.proofs.Decided.{decides_one}
use Rattle.roads.specs.Rules.{opening_rules}
use Rattle.slips.specs.declared.moves.Act.{Act}
use Rattle.slips.specs.declared.moves.Act.TheVariants.{Pin}
use Rattle.slips.specs.declared.moves.Move.TheVariants.{Refused}
use Rattle.slips.specs.declared.moves.SlipCall.TheVariants.{PickUp, Spend}
use Rattle.slips.specs.declared.moves.SlipState.{SlipState}
use Rattle.slips.specs.declared.moves.SlipState.TheVariants.{InHand, Pinned, Booked, Released}
use Rattle.slips.specs.declared.slip.Slip.{Slip}
use Rattle.slips.specs.Holds.{state_of, standing_of, entry_of}
use Rattle.slips.specs.Moves.{becomes}
use Rattle.slips.proofs.Tables.{stands}
use Rattle.board.specs.Calls.{Opens, Adds, Names, Sets, Holds, PicksUp, Spends}
use Rattle.board.specs.Rules.{adding_rules, naming_rules, setting_rules, holding_rules, picking_rules}
use Rattle.board.specs.States.{State, fresh, lane_added, depot_named, capacity_set, held, moved, next_slip}
use Rattle.session.specs.Asking.{HoldsPinned, SpendsPicked}

-- a call has one outcome, and leaves one board
abbrev pub One : {X : Type 0} → (Result X Refusal → State → Type 0) → Type 0
One {X} Call = (w v : Result X Refusal) (b c : State) → Call w b → Call v c → (w ≡ v) × (b ≡ c)

-- rules do not both accept and refuse
clash : (xs : List Rule) (why : Refusal) → Decides xs None → Decides xs (Some why) → ⊥
clash xs why d e = let f : None ≡ Some why = decides_one xs _ _ d e in cc

-- a call that rules decide, where an accepted one has one value and one board
abbrev pub Ruled : {X : Type 0} → List Rule → X → State → State → Result X Refusal → State → Type 0
Ruled rules x s next (Ok y) b = Decides rules None × (y ≡ x) × (b ≡ next)
Ruled rules x s next (Err why) b = Decides rules (Some why) × (b ≡ s)

ruled_one : {X : Type 0} (rules : List Rule) (x : X) (s next : State) → One (Ruled rules x s next)
ruled_one rules x s next (Ok y) (Ok z) b c p q = (ap Ok (p.1 ∙ sym q.1), p.2 ∙ sym q.2)
ruled_one rules x s next (Ok y) (Err why) b c p q = absurd (clash rules why p.0 q.0)
ruled_one rules x s next (Err why) (Ok z) b c p q = absurd (clash rules why q.0 p.0)
ruled_one rules x s next (Err why) (Err how) b c p q =
    let e : Some why ≡ Some how = decides_one rules _ _ p.0 q.0 in
    let f : why ≡ how = cc in
    (ap Err f, p.1 ∙ sym q.1)

by_rules : {X : Type 0} (Call : Result X Refusal → State → Type 0) (rules : List Rule) (x : X) (s next : State)
    → ((w : Result X Refusal) (b : State) → Call w b → Ruled rules x s next w b) → One Call
by_rules Call rules x s next f w v b c p q = ruled_one rules x s next w v b c (f w b p) (f v c q)

opens : (s : State) (horizon origin : ℕ) (w : Result Unit Refusal) (b : State) → Opens s horizon origin w b → Ruled (opening_rules horizon origin) tt s (fresh horizon origin) w b
opens s horizon origin (Ok x) b p = (p.0, refl, p.1)
opens s horizon origin (Err why) b p = p

pub opens_one : (s : State) (horizon origin : ℕ) → One (Opens s horizon origin)
opens_one s horizon origin = by_rules _ (opening_rules horizon origin) tt s (fresh horizon origin) (opens s horizon origin)

adds : (s : State) (lane : Lane) (capacity : ℕ) (w : Result ℕ Refusal) (b : State) → Adds s lane capacity w b → Ruled (adding_rules s lane capacity) (length s.grid.lanes) s (lane_added s lane capacity) w b
adds s lane capacity (Ok n) b p = p
adds s lane capacity (Err why) b p = p

pub adds_one : (s : State) (lane : Lane) (capacity : ℕ) → One (Adds s lane capacity)
adds_one s lane capacity = by_rules _ (adding_rules s lane capacity) (length s.grid.lanes) s (lane_added s lane capacity) (adds s lane capacity)

names : (s : State) (yard : ℕ) (w : Result ℕ Refusal) (b : State) → Names s yard w b → Ruled (naming_rules s yard) (length s.grid.depots) s (depot_named s yard) w b
names s yard (Ok n) b p = p
names s yard (Err why) b p = p

pub names_one : (s : State) (yard : ℕ) → One (Names s yard)
names_one s yard = by_rules _ (naming_rules s yard) (length s.grid.depots) s (depot_named s yard) (names s yard)

sets : (s : State) (lane period capacity : ℕ) (w : Result Unit Refusal) (b : State) → Sets s lane period capacity w b → Ruled (setting_rules s lane period capacity) tt s (capacity_set s lane period capacity) w b
sets s lane period capacity (Ok x) b p = (p.0, refl, p.1)
sets s lane period capacity (Err why) b p = p

pub sets_one : (s : State) (lane period capacity : ℕ) → One (Sets s lane period capacity)
sets_one s lane period capacity = by_rules _ (setting_rules s lane period capacity) tt s (capacity_set s lane period capacity) (sets s lane period capacity)

holds : (s : State) (yard pallets : ℕ) (w : Result Slip Refusal) (b : State) → Holds s yard pallets w b → Ruled (holding_rules s yard pallets) (next_slip s yard pallets) s (held s yard pallets) w b
holds s yard pallets (Ok slip) b p = p
holds s yard pallets (Err why) b p = p

pub holds_one : (s : State) (yard pallets : ℕ) → One (Holds s yard pallets)
holds_one s yard pallets = by_rules _ (holding_rules s yard pallets) (next_slip s yard pallets) s (held s yard pallets) (holds s yard pallets)

-- what is picked up was pinned
not_due : (why : Refusal) (due : Type 0) → Decides (rule why due ∷ []) None → due → ⊥
not_due why due (inl w) = cc
not_due why due (inr w) = w.0

pinned : (o : Option SlipState) → (becomes PickUp o ≡ Refused → ⊥) → o ≡ Some Pinned
pinned None ne = absurd (ne refl)
pinned (Some InHand) ne = absurd (ne refl)
pinned (Some Pinned) ne = refl
pinned (Some Booked) ne = absurd (ne refl)
pinned (Some Released) ne = absurd (ne refl)

module _ (s : State) (number : ℕ) where
  entry : (slip : Slip) (b : State) → PicksUp s number (Ok slip) b → slice_get s.holds number ≡ Some (entry_of slip Pinned)
  entry slip b p =
      let present = pinned (state_of s.holds number) (not_due _ _ p.0) in
      ap (slice_get s.holds) (sym p.1) ∙ stands s.holds slip Pinned (p.2 ∙ present)

  same_slip : (x y : Slip) (b c : State) → PicksUp s number (Ok x) b → PicksUp s number (Ok y) c → x ≡ y
  same_slip x y b c p q =
      let both : Some (entry_of x Pinned) ≡ Some (entry_of y Pinned) = sym (entry x b p) ∙ entry y c q in
      let e : entry_of x Pinned ≡ entry_of y Pinned = cc in
      λ i. record { number = (p.1 ∙ sym q.1) i; depot = (e i).depot; pallets = (e i).pallets }

  pub picks_one : One (PicksUp s number)
  picks_one (Ok x) (Ok y) b c p q =
      let e = same_slip x y b c p q in
      (ap Ok e, p.3 ∙ (ap (λ (z : Slip). moved s z (becomes PickUp (state_of s.holds number))) e ∙ sym q.3))
  picks_one (Ok x) (Err why) b c p q = absurd (clash (picking_rules s number) why p.0 q.0)
  picks_one (Err why) (Ok y) b c p q = absurd (clash (picking_rules s number) why q.0 p.0)
  picks_one (Err why) (Err how) b c p q =
      let e : Some why ≡ Some how = decides_one (picking_rules s number) _ _ p.0 q.0 in
      let f : why ≡ how = cc in
      (ap Err f, p.1 ∙ sym q.1)

-- an accepted call with a slip leaves one board
module _ (act : Act) where
  abbrev spent : State → Slip → State
  spent s slip = moved s slip (becomes (Spend act) (standing_of s.holds slip))

  pub spends_one : (s t : State) (x y : Slip) (b c : State) → s ≡ t → x ≡ y → Spends s x act (Ok tt) b → Spends t y act (Ok tt) c → b ≡ c
  spends_one s t x y b c e f p q = p.1 ∙ ((λ i. spent (e i) (f i)) ∙ sym q.1)

module _ (s : State) (yard pallets : ℕ) where
  pub holds_pinned_one : One (HoldsPinned s yard pallets)
  unfolding HoldsPinned
  holds_pinned_one (Ok n) (Ok m) b c (x, s', hp, sp, np) (y, t', hq, sq, nq) =
      let (ok, mid) = holds_one s yard pallets (Ok x) (Ok y) s' t' hp hq in
      let e : x ≡ y = cc in
      (ap Ok (np ∙ (ap (λ (z : Slip). z.number) e ∙ sym nq)), spends_one Pin s' t' x y b c mid e sp sq)
  holds_pinned_one (Ok n) (Err why) b c (x, s', hp, sp, np) q = let f = (holds_one s yard pallets (Ok x) (Err why) s' c hp q).0 in cc
  holds_pinned_one (Err why) (Ok m) b c p (y, t', hq, sq, nq) = let f = (holds_one s yard pallets (Err why) (Ok y) b t' p hq).0 in cc
  holds_pinned_one (Err why) (Err how) b c p q =
      let (err, mid) = holds_one s yard pallets (Err why) (Err how) b c p q in
      let e : why ≡ how = cc in
      (ap Err e, mid)

module _ (s : State) (number : ℕ) (act : Act) where
  pub spends_picked_one : One (SpendsPicked s number act)
  unfolding SpendsPicked
  spends_picked_one (Ok n) (Ok m) b c (x, s', pp, sp) (y, t', pq, sq) =
      let (ok, mid) = picks_one s number (Ok x) (Ok y) s' t' pp pq in
      let e : x ≡ y = cc in
      (refl, spends_one act s' t' x y b c mid e sp sq)
  spends_picked_one (Ok n) (Err why) b c (x, s', pp, sp) q = let f = (picks_one s number (Ok x) (Err why) s' c pp q).0 in cc
  spends_picked_one (Err why) (Ok m) b c p (y, t', pq, sq) = let f = (picks_one s number (Err why) (Ok y) b t' p pq).0 in cc
  spends_picked_one (Err why) (Err how) b c p q =
      let (err, mid) = picks_one s number (Err why) (Err how) b c p q in
      let e : why ≡ how = cc in
      (ap Err e, mid)
