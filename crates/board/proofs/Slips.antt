-- What the slip calls leave of what is invariant on a board.
use Rattle.std.proofs.Common.{◌≡◌, ℕ, ◌≤◌, true, false, List, set, Some, None, Ok, Err, Option, Result, sym, refl, ap, ◌∙◌, subst, arith}
use Rattle.std.specs.Prelude.{slice_index, is_ok, is_err}
use Rattle.std.proofs.lemmas.List.Elements.{All-set}
use Rattle.std.proofs.lemmas.Option.{get_or_from_slice_get, slice_get_within}
use Rattle.refusals.specs.declared.Refusal.{Refusal}
use Rattle.roads.specs.Grids.{Grid, timetable}
use Rattle.timetable.specs.Plans.{Delivers}
use Rattle.slips.specs.declared.moves.Act.{Act}
use Rattle.slips.specs.declared.moves.Act.TheVariants.{Pin, Book, Release, TearUp}
use Rattle.slips.specs.declared.moves.Move.{Move}
use Rattle.slips.specs.declared.moves.Move.TheVariants.{To, Stay, Refused}
use Rattle.slips.specs.declared.moves.SlipCall.{SlipCall}
use Rattle.slips.specs.declared.moves.SlipCall.TheVariants.{Spend}
use Rattle.slips.specs.declared.moves.SlipState.{SlipState}
use Rattle.slips.specs.declared.moves.SlipState.TheVariants.{InHand, Pinned}
use Rattle.slips.specs.declared.refusal.Returned.{Returned}
use Rattle.slips.specs.declared.refusal.SlipRefusal.{SlipRefusal}
use Rattle.slips.specs.declared.slip.Slip.{Slip}
use Rattle.slips.specs.declared.table.Entry.{Entry}
use Rattle.slips.specs.declared.table.SlipTable.{SlipTable}
use Rattle.slips.specs.Holds.{holds, standing_of, entry_of, Spent, SpentBy, PickedUp}
use Rattle.slips.specs.Moves.{becomes}
use Rattle.slips.specs.Owed.{owed_at}
use Rattle.slips.proofs.Answered.{picked, not_picked}
use Rattle.slips.proofs.Owing.{owed_laws}
use Rattle.slips.proofs.Tables.{stands}
use Rattle.board.specs.Owing.{owed_by}
use Rattle.board.specs.Planned.{Planned, plan_in}
use Rattle.board.specs.declared.loads.Loads.{Loads}
use Rattle.board.proofs.Finding.{delivers_servable, less_servable, planned, found_always}
use Rattle.board.proofs.Kept.{Bounded, Kept}
use Rattle.board.proofs.Lists.{by_depot}

-- a slip whose hold stands on the board has no more pallets than any hold
slip_bounded : (hs : List Entry) (s : Slip) (x : SlipState) → standing_of hs s ≡ Some x → Bounded hs → s.pallets ≤ 9999
slip_bounded hs s x e bounded =
    let at = stands hs s x e in
    let lt = slice_get_within hs s.number (entry_of s x) at in
    subst (λ (h : Entry). h.pallets ≤ 9999) (get_or_from_slice_get hs s.number (entry_of s x) (entry_of s x) at) (bounded s.number (entry_of s x) lt)

move_bounded : (hs hs' : List Entry) (s : Slip) (x y : SlipState) → standing_of hs s ≡ Some y → hs' ≡ set hs s.number (entry_of s x) → Bounded hs → Bounded hs'
move_bounded hs hs' s x y e f bounded =
    subst Bounded (sym f) (All-set (λ (h : Entry). h.pallets ≤ 9999) hs s.number (entry_of s x) (slip_bounded hs s y e bounded) bounded)

same_bounded : (t t' : SlipTable) → t' ≡ t → Bounded (holds t) → Bounded (holds t')
same_bounded t t' e bounded = subst (λ (u : SlipTable). Bounded (holds u)) (sym e) bounded

-- a hold moves only where it stands on the board
stood : (act : Act) (o : Option SlipState) (x : SlipState) → becomes (Spend act) o ≡ To x → (y : SlipState) × (o ≡ Some y)
stood act (Some y) x e = (y, refl)
stood Pin None x e = cc
stood Book None x e = cc
stood Release None x e = cc
stood TearUp None x e = cc

module _ (t t' : SlipTable) (s : Slip) where
  pub spent_bounded : (act : Act) (r : Result Unit Returned) → Spent (Spend act) t s r t' → Bounded (holds t) → Bounded (holds t')
  spent_bounded act r h bounded = by_move (becomes (Spend act) (standing_of (holds t) s)) refl h
    where
      by_move : (m : Move) → becomes (Spend act) (standing_of (holds t) s) ≡ m → SpentBy t s m r t' → Bounded (holds t')
      by_move (To x) e w = let (y, stands_so) = stood act (standing_of (holds t) s) x e in move_bounded (holds t) (holds t') s x y stands_so w.1 bounded
      by_move Stay e w = same_bounded t t' w.1 bounded
      by_move Refused e w = same_bounded t t' w.1 bounded

  refused_by : (m : Move) (b : Returned) → SpentBy t s m (Err b) t' → t' ≡ t
  refused_by (To x) b w = cc
  refused_by Stay b w = cc
  refused_by Refused b w = w.1

  -- a refusal leaves the table
  spent_refused : (c : SlipCall) (b : Returned) → Spent c t s (Err b) t' → t' ≡ t
  spent_refused c b h = refused_by (becomes c (standing_of (holds t) s)) b h

  kept_less : (c : SlipCall) (r : Result Unit Returned) → (c ≡ Spend Release → ⊥) → Spent c t s r t' → (y : ℕ) → owed_at y (holds t') ≤ owed_at y (holds t)
  kept_less c r ne h y = omega (arith, owed_laws.kept y c t t' s r ne h)

  -- no call with a slip has more owed
  spent_less : (act : Act) (r : Result Unit Returned) → Spent (Spend act) t s r t' → (y : ℕ) → owed_at y (holds t') ≤ owed_at y (holds t)
  spent_less Pin r h = kept_less (Spend Pin) r (λ e. cc) h
  spent_less Book r h = kept_less (Spend Book) r (λ e. cc) h
  spent_less Release (Ok u) h = λ y. omega (arith, owed_laws.released y t t' s h)
  spent_less Release (Err b) h = λ y. let same : owed_at y (holds t') ≡ owed_at y (holds t) = ap (λ (u : SlipTable). owed_at y (holds u)) (spent_refused (Spend Release) b h) in omega (arith, same)
  spent_less TearUp r h = kept_less (Spend TearUp) r (λ e. cc) h

  -- but for an accepted release, none has less owed
  spent_owed : (act : Act) (r : Result Unit Returned) → Spent (Spend act) t s r t' → (is_ok r ≡ true → act ≡ Release → ⊥) → (y : ℕ) → owed_at y (holds t') ≡ owed_at y (holds t)
  spent_owed act (Ok u) h other y = owed_laws.kept y (Spend act) t t' s (Ok u) (λ e. other refl (released_by act e)) h
    where
      released_by : (a : Act) → Spend a ≡ Spend Release → a ≡ Release
      released_by Pin e = cc
      released_by Book e = cc
      released_by Release e = refl
      released_by TearUp e = cc
  spent_owed act (Err b) h other y = ap (λ (u : SlipTable). owed_at y (holds u)) (spent_refused (Spend act) b h)

-- the plan stands for other holds of which as much is owed
same_kept : (g : Grid) (p : ℕ → ℕ → ℕ) (hs hs' : List Entry) → ((y : ℕ) → owed_at y hs' ≡ owed_at y hs) → Bounded hs' → Kept g hs p → Kept g hs' p
same_kept g p hs hs' same bounded k = record {
  feasible = k.feasible;
  delivers = subst (λ (owed : List ℕ). Delivers (timetable g) (slice_index owed) p) (sym (by_depot _ _ same g.depots)) k.delivers;
  bounded = bounded;
  promised = λ y none. same y ∙ k.promised y none;
}

-- it does after a call with a slip, but for an accepted release
pub spent_kept : (g : Grid) (p : ℕ → ℕ → ℕ) (t t' : SlipTable) (s : Slip) (act : Act) (r : Result Unit Returned) → Spent (Spend act) t s r t'
    → (is_ok r ≡ true → act ≡ Release → ⊥) → Kept g (holds t) p → Kept g (holds t') p
spent_kept g p t t' s act r h other k = same_kept g p (holds t) (holds t') (spent_owed t t' s act r h other) (spent_bounded t t' s act r h k.bounded) k

-- and after a pick-up
pub picked_kept : (g : Grid) (p : ℕ → ℕ → ℕ) (t t' : SlipTable) (n : ℕ) (r : Result Slip SlipRefusal) → PickedUp t n r t' → Kept g (holds t) p → Kept g (holds t') p
picked_kept g p t t' n r h k = same_kept g p (holds t) (holds t') (λ y. owed_laws.picked y n t t' r h) (bounded r h) k
  where
    bounded : (r : Result Slip SlipRefusal) → PickedUp t n r t' → Bounded (holds t')
    bounded (Ok s) h =
        let w = picked t t' n s h in
        move_bounded (holds t) (holds t') s InHand Pinned w.1 (w.2 ∙ ap (λ (m : ℕ). set (holds t) m (entry_of s InHand)) (sym w.0)) k.bounded
    bounded (Err why) h = same_bounded t t' (not_picked t t' n why h).2 k.bounded

-- After a call with a slip there is still a plan, and a search for one finds it.
module _ (g : Grid) (t t' : SlipTable) (s : Slip) (act : Act) (r : Result Unit Returned) (h : Spent (Spend act) t s r t') (loads loads' : Loads) (r' : Result Unit Refusal)
    (searched : Planned g (owed_by g.depots (holds t')) loads r' loads') (k : Kept g (holds t) (plan_in loads)) where
  pub still_found : is_err r' ≡ false
  still_found = found_always g (owed_by g.depots (holds t')) loads loads' r' searched (less_servable g (holds t) (holds t') (spent_less t t' s act r h) (delivers_servable k.feasible k.delivers))

  pub still_kept : Kept g (holds t') (plan_in loads')
  still_kept =
      let (feasible, delivers) = planned g (owed_by g.depots (holds t')) loads loads' r' searched still_found in
      record {
        feasible = feasible;
        delivers = delivers;
        bounded = spent_bounded t t' s act r h k.bounded;
        promised = λ y none. omega (arith, k.promised y none, spent_less t t' s act r h y);
      }
