-- One hold changes: where slips and numbers stand then.
use Rattle.std.proofs.Common.{◌≡◌, ℕ, ◌+◌, Bool, true, false, cond, ◌&&◌, eqb, ◌⊎◌, List, [], ◌∷◌, ◌++◌, length, set, Some, None, Option, sym, refl, ap, ◌∙◌, subst, inl, inr, arith}
use Rattle.std.specs.List.{slice_get}
use Rattle.std.specs.Option.{option_map, option_and_then}
use Rattle.std.proofs.lemmas.Bool.{cases_eq, cond-false, and_parts, eqb-true, eq-eqb, ne_eqb}
use Rattle.slips.specs.declared.moves.SlipState.{SlipState}
use Rattle.slips.specs.declared.moves.SlipState.TheVariants.{InHand, Pinned, Booked, Released}
use Rattle.slips.specs.declared.slip.Slip.{Slip}
use Rattle.slips.specs.declared.table.Entry.{Entry}
use Rattle.slips.specs.Holds.{state_of, standing_of, stands_for, entry_of}
use Rattle.std.proofs.lemmas.Option.{gets, slice_get_past}
use Rattle.std.proofs.lemmas.Grind.{common_steps}
use Rattle.slips.proofs.Tables.{stands, entry_stands}
use Rattle.slip_runs.specs.Deeds.{same}
use Rattle.slip_runs.specs.Laws.{Lasts, Onward}

-- the hold of slip s, which stood as o says (not at all where it is new), now stands x, and no other hold has changed
pub record Changed (hs hs' : List Entry) (s : Slip) (o : Option SlipState) (x : SlipState) : Type 0 where
  pub was : slice_get hs s.number ≡ option_map (entry_of s) o
  pub is : slice_get hs' s.number ≡ Some (entry_of s x)
  pub others : (k : ℕ) → (k ≡ s.number → ⊥) → slice_get hs' k ≡ slice_get hs k

-- a new hold at the end
pub pushed : (hs : List Entry) (s : Slip) (x : SlipState) → s.number ≡ length hs → Changed hs (hs ++ entry_of s x ∷ []) s None x
pushed hs s x e = record {
  was = slice_get_past hs s.number (omega arith);
  is = grind (arith, common_steps, gets);
  others = λ k ne. grind (arith, common_steps, gets);
}

-- a hold that moves from standing y to standing x
pub shifted : (hs : List Entry) (s : Slip) (y x : SlipState) → standing_of hs s ≡ Some y → Changed hs (set hs s.number (entry_of s x)) s (Some y) x
shifted hs s y x e =
    let at = stands hs s y e in
    record {
      was = at;
      is = grind (arith, common_steps, gets);
      others = λ k ne. grind (arith, common_steps, gets);
    }

same_slip : (s t : Slip) → same s t ≡ true → s ≡ t
same_slip s t e =
    let one = and_parts (eqb s.number t.number) (eqb s.depot t.depot && eqb s.pallets t.pallets) e in
    let two = and_parts (eqb s.depot t.depot) (eqb s.pallets t.pallets) one.1 in
    λ i. record {
      number = eqb-true s.number t.number one.0 i;
      depot = eqb-true s.depot t.depot two.0 i;
      pallets = eqb-true s.pallets t.pallets two.1 i;
    }

and_rest : (a b : Bool) → a ≡ true → a && b ≡ false → b ≡ false
and_rest true b e f = f
and_rest false b e f = cc

-- a slip of the number that is another slip stands nowhere
unlike : (t s : Slip) (y : SlipState) → same t s ≡ false → t.number ≡ s.number → stands_for t (entry_of s y) ≡ None
unlike t s y ne e = cond-false _ _ _ (and_rest (eqb t.number s.number) _ (eq-eqb t.number s.number e) ne)

unlike_any : (t s : Slip) (o : Option SlipState) → same t s ≡ false → t.number ≡ s.number → option_and_then (stands_for t) (option_map (entry_of s) o) ≡ None
unlike_any t s None ne e = refl
unlike_any t s (Some y) ne e = unlike t s y ne e

stood : (s : Slip) (o : Option SlipState) → option_and_then (stands_for s) (option_map (entry_of s) o) ≡ o
stood s None = refl
stood s (Some y) = entry_stands s y

state_stood : (s : Slip) (o : Option SlipState) → option_map (λ e. e.state) (option_map (entry_of s) o) ≡ o
state_stood s None = refl
state_stood s (Some y) = refl

module _ (hs hs' : List Entry) (s : Slip) (o : Option SlipState) (x : SlipState) (c : Changed hs hs' s o x) where
  apart : (t : Slip) → same t s ≡ false → standing_of hs' t ≡ standing_of hs t
  apart t ne = elim (cases_eq t.number s.number) [
    | inl e ↦ ap (λ (k : ℕ). option_and_then (stands_for t) (slice_get hs' k)) e ∙ ap (option_and_then (stands_for t)) c.is ∙ unlike t s x ne e
        ∙ sym (ap (λ (k : ℕ). option_and_then (stands_for t) (slice_get hs k)) e ∙ ap (option_and_then (stands_for t)) c.was ∙ unlike_any t s o ne e)
    | inr d ↦ ap (option_and_then (stands_for t)) (c.others t.number d)
  ]

  here_before : standing_of hs s ≡ o
  here_before = ap (option_and_then (stands_for s)) c.was ∙ stood s o

  here_after : standing_of hs' s ≡ Some x
  here_after = ap (option_and_then (stands_for s)) c.is ∙ entry_stands s x

  module _ (f : Option SlipState → ℕ) where
    by_slip_at : (t : Slip) (b : Bool) → same t s ≡ b
        → f (standing_of hs' t) + cond b (f o) 0 ≡ f (standing_of hs t) + cond b (f (Some x)) 0
    by_slip_at t true e =
        let eq = same_slip t s e in
        omega (
          arith,
          ap (λ (u : Slip). f (standing_of hs' u)) eq ∙ ap f here_after,
          ap (λ (u : Slip). f (standing_of hs u)) eq ∙ ap f here_before,
        )
    by_slip_at t false e = omega (arith, ap f (apart t e))

    -- what is told of where a slip stands changes for slip s alone
    pub by_slip : (t : Slip) → f (standing_of hs' t) + cond (same t s) (f o) 0 ≡ f (standing_of hs t) + cond (same t s) (f (Some x)) 0
    by_slip t = by_slip_at t (same t s) refl

    by_number_at : (n : ℕ) → (n ≡ s.number) ⊎ (n ≡ s.number → ⊥)
        → f (state_of hs' n) + cond (eqb n s.number) (f o) 0 ≡ f (state_of hs n) + cond (eqb n s.number) (f (Some x)) 0
    by_number_at n (inl e) =
        let at = ap (λ (b : Bool). cond b (f o) 0) (eq-eqb n s.number e) in
        let at' = ap (λ (b : Bool). cond b (f (Some x)) 0) (eq-eqb n s.number e) in
        omega (
          arith,
          ap (λ (k : ℕ). f (state_of hs' k)) e ∙ ap (λ (h : Option Entry). f (option_map (λ e. e.state) h)) c.is,
          ap (λ (k : ℕ). f (state_of hs k)) e ∙ ap (λ (h : Option Entry). f (option_map (λ e. e.state) h)) c.was ∙ ap f (state_stood s o),
        )
    by_number_at n (inr ne) =
        let at = ap (λ (b : Bool). cond b (f o) 0) (ne_eqb n s.number ne) in
        let at' = ap (λ (b : Bool). cond b (f (Some x)) 0) (ne_eqb n s.number ne) in
        omega (arith, ap (λ (h : Option Entry). f (option_map (λ e. e.state) h)) (c.others n ne))

    -- and what is told of where a number stands, for its number alone
    pub by_number : (n : ℕ) → f (state_of hs' n) + cond (eqb n s.number) (f o) 0 ≡ f (state_of hs n) + cond (eqb n s.number) (f (Some x)) 0
    by_number n = by_number_at n (cases_eq n s.number)

pub lasts : (x : SlipState) → Lasts x x
lasts InHand = tt
lasts Pinned = tt
lasts Booked = refl
lasts Released = refl

lasts_on : (x y z : SlipState) → Lasts x y → Lasts y z → Lasts x z
lasts_on InHand y z a b = tt
lasts_on Pinned y z a b = tt
lasts_on Booked y z a b = subst (λ (v : SlipState). Lasts v z) a b
lasts_on Released y z a b = subst (λ (v : SlipState). Lasts v z) a b

pub onward_same : (hs : List Entry) → Onward hs hs
onward_same hs n e at = (e.state, at, lasts e.state)

pub onward_on : (hs hs' hs'' : List Entry) → Onward hs hs' → Onward hs' hs'' → Onward hs hs''
onward_on hs hs' hs'' f g n e at =
    let one = f n e at in
    let two = g n _ one.1 in
    (two.0, two.1, lasts_on e.state one.0 two.0 one.2 two.2)

-- a hold that is new, or that may come to stand so
abbrev pub MayStand : Option SlipState → SlipState → Type 0
MayStand None x = Unit {0}
MayStand (Some y) x = Lasts y x

onward_here : (s : Slip) (o : Option SlipState) (x : SlipState) (e : Entry) → MayStand o x → option_map (entry_of s) o ≡ Some e
    → (Some (entry_of s x) ≡ Some (record { depot = e.depot; pallets = e.pallets; state = x })) × Lasts e.state x
onward_here s None x e may at = cc
onward_here s (Some y) x e may at =
    let eq : entry_of s y ≡ e = cc in
    (ap (λ (h : Entry). Some (record { depot = h.depot; pallets = h.pallets; state = x })) eq, subst (λ (h : Entry). Lasts h.state x) eq may)

pub onward_changed : (hs hs' : List Entry) (s : Slip) (o : Option SlipState) (x : SlipState) → Changed hs hs' s o x → MayStand o x → Onward hs hs'
onward_changed hs hs' s o x c may n e at = elim (cases_eq n s.number) [
  | inl eq ↦ (
      let here = onward_here s o x e may (sym c.was ∙ ap (slice_get hs) (sym eq) ∙ at) in
      (x, ap (slice_get hs') eq ∙ c.is ∙ here.0, here.1))
  | inr ne ↦ (e.state, c.others n ne ∙ at, lasts e.state)
]
