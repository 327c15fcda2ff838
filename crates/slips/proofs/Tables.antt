-- The holds of a table, and where they stand.
use Rattle.std.proofs.Common.{slice_get, option_and_then, ◌≡◌, ℕ, ◌+◌, ◌<◌, ◌≤◌, true, ◌&&◌, eqb, List, [], ◌∷◌, ◌++◌, length, get_or, take, set, is_some, Some, None, Option, sym, refl, ap, ◌∙◌, arith, length-take}
use Rattle.std.proofs.Math.Seq.{take-set-lt}
use Rattle.std.proofs.lemmas.Grind.{common_steps}
use Rattle.std.proofs.lemmas.Option.{gets, cond_some, option_and_then_some, slice_get_within}
use Rattle.std.proofs.lemmas.Bool.{eqb-true, eq-eqb, and_parts, and_from, cond-true}
use Rattle.slips.specs.declared.moves.SlipState.{SlipState}
use Rattle.slips.specs.declared.slip.Slip.{Slip}
use Rattle.slips.specs.declared.table.Entry.{Entry}
use Rattle.slips.specs.declared.table.SlipTable.{SlipTable}
use Rattle.slips.specs.Holds.{holds, stands_for, standing_of, entry_of}

-- a table has at most 512 holds
pub holds_most : (t : SlipTable) → length (holds t) ≤ 512
unfolding holds
holds_most t = let most = t.within in simp length-take (omega arith)

alike : (s : Slip) (e : Entry) (x : SlipState) → stands_for s e ≡ Some x → e ≡ entry_of s x
alike s e x f =
    let some = cond_some (eqb s.depot e.depot && eqb s.pallets e.pallets) e.state x f in
    let parts = and_parts (eqb s.depot e.depot) (eqb s.pallets e.pallets) some.0 in
    let depot = sym (eqb-true s.depot e.depot parts.0) in
    let pallets = sym (eqb-true s.pallets e.pallets parts.1) in
    λ i. record { depot = depot i; pallets = pallets i; state = some.1 i }

-- a slip's hold that stands so is the entry of its number
pub stands : (hs : List Entry) (s : Slip) (x : SlipState) → standing_of hs s ≡ Some x → slice_get hs s.number ≡ Some (entry_of s x)
stands hs s x f = option_and_then_some (stands_for s) (slice_get hs s.number) x f (λ e at here. at ∙ ap Some (alike s e x here))

pub entry_stands : (s : Slip) (x : SlipState) → stands_for s (entry_of s x) ≡ Some x
entry_stands s x = cond-true _ _ _ (and_from _ _ (eq-eqb s.depot s.depot refl) (eq-eqb s.pallets s.pallets refl))

-- and back
pub stands_back : (hs : List Entry) (s : Slip) (x : SlipState) → slice_get hs s.number ≡ Some (entry_of s x) → standing_of hs s ≡ Some x
stands_back hs s x e = ap (option_and_then (stands_for s)) e ∙ entry_stands s x

-- a table has as many holds as it counts
pub counted : (t : SlipTable) → t.count ≡ length (holds t)
unfolding holds
counted t =
    let long = t.long in
    let most = t.within in
    grind (arith, common_steps)

-- a hold written behind the last one
pub pushed : (t t' : SlipTable) (e : Entry) → t.count < 512 → t'.entries ≡ set t.entries t.count e → t'.count ≡ t.count + 1
    → holds t' ≡ holds t ++ e ∷ []
unfolding holds
pushed t t' e lt es n =
    let long = t.long in
    grind (arith, common_steps)

some_of : (o : Option SlipState) → is_some o ≡ true → (x : SlipState) × (o ≡ Some x)
some_of None e = cc
some_of (Some x) e = (x, refl)

-- a slip that the table has is of a number that was given
pub had : (hs : List Entry) (s : Slip) → is_some (standing_of hs s) ≡ true → s.number < length hs
had hs s e = let some = some_of (standing_of hs s) e in slice_get_within hs s.number _ (stands hs s some.0 some.1)

-- the entry in the array is the hold of the slip
entry_had : (t : SlipTable) (s : Slip) (d : Entry) → is_some (standing_of (holds t) s) ≡ true → (x : SlipState) × (get_or t.entries s.number d ≡ entry_of s x)
unfolding holds
entry_had t s d e =
    let some = some_of (standing_of (holds t) s) e in
    let is = stands (holds t) s some.0 some.1 in
    (some.0, grind (arith, common_steps, gets, had (holds t) s e, counted t))

-- a write to the state of a slip's hold
pub restated : (t t' : SlipTable) (n : ℕ) (d : Entry) (x : SlipState) (s : Slip) → s.number ≡ n → is_some (standing_of (holds t) s) ≡ true
    → t'.entries ≡ set t.entries n (record { depot = (get_or t.entries n d).depot; pallets = (get_or t.entries n d).pallets; state = x })
    → t'.count ≡ t.count
    → holds t' ≡ set (holds t) n (entry_of s x)
unfolding holds
restated t t' n d x s e some es c =
    let was = entry_had t s d some in
    let below : n < t.count = omega (arith, had (holds t) s some, counted t) in
    let here : get_or t.entries n d ≡ entry_of s was.0 = ap (λ (k : ℕ). get_or t.entries k d) (sym e) ∙ was.1 in
    ap (λ (k : ℕ). take k t'.entries) c
    ∙ ap (take t.count) es
    ∙ ap (λ (h : Entry). take t.count (set t.entries n (record { depot = h.depot; pallets = h.pallets; state = x }))) here
    ∙ take-set-lt t.count t.entries n (entry_of s x) below
