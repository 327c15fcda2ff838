-- A planner that tells no quote of a board was lent too short a list.
use Rattle.std.proofs.Common.{◌≡◌, ℕ, suc, ◌*◌, ◌<◌, Bool, true, false, ◌⊎◌, List, length, Some, None, Ok, Err, Result, sym, refl, ap, ◌∙◌, subst, inl, inr, ⊎_elim}
use Rattle.std.specs.Prelude.{slice_index, is_err, not, ◌&&◌, nat_le, if◌then◌else◌}
use Rattle.std.specs.List.{list_all}
use Rattle.std.proofs.lemmas.Bool.{cases_lt, and_from, le-leb, eq-eqb}
use Rattle.std.proofs.lemmas.List.{length-map}
use Rattle.expanded.specs.Made.{owed_fault, is_within}
use Rattle.expanded.specs.Schedules.{timetable_of}
use Rattle.expanded.specs.declared.schedule.Schedule.{Schedule}
use Rattle.planning.specs.Quotes as planner
use Rattle.planning.specs.declared.error.QuoteError.{QuoteError}
use Rattle.planning.specs.declared.error.QuoteError.TheVariants.{Owed, ListTooShort, Unservable}
use Rattle.ranking.specs.Ranking.{Ranking}
use Rattle.refusals.specs.declared.Refusal.TheVariants as refusal
use Rattle.roads.specs.Grids.{Grid, timetable}
use Rattle.timetable.specs.Plans.{Timetable, Servable}
use Rattle.slips.specs.declared.table.Entry.{Entry}
use Rattle.slips.specs.Owed.{owed_at}
use Rattle.board.specs.Calls.{Quotes}
use Rattle.board.specs.Owing.{owed_by}
use Rattle.board.specs.States.{State}

neither : {E : Type 0} (a b : Bool) (x y : E) → a ≡ true → b ≡ true → (if not a then Some x else if not b then Some y else None) ≡ None
neither true true x y p q = refl
neither true false x y p q = cc
neither false b x y p q = cc

-- one of two lists is too short
too_short : (k m a b : ℕ) → (nat_le k a && nat_le m b) ≡ false → (a < k) ⊎ (b < m)
too_short k m a b e =
    ⊎_elim (λ l. inl l)
    (λ ge. ⊎_elim (λ l. inr l)
    (λ ge'. let c : true ≡ false = sym (and_from _ _ (le-leb k a ge) (le-leb m b ge')) ∙ e in cc)
    (cases_lt b m))
    (cases_lt a k)

-- The planner is asked on the same roads, for what is owed at each depot, which can be delivered.
module _ (s : Schedule) (g : Grid) (hs : List Entry) (is : timetable_of s ≡ timetable g) (given : List ℕ) (owing : given ≡ owed_by g.depots hs) (low : list_all is_within given ≡ true)
    (servable : Servable (timetable g) (slice_index (owed_by g.depots hs))) (meaning : ℕ → ℕ → Ranking) (figures figures' marks marks' : List ℕ) where
  abbrev board : State
  board = record { grid = g; holds = hs }

  abbrev asked : Ranking
  asked = meaning (length s.depots.now) s.horizon

  abbrev by_roads : Ranking
  by_roads = meaning (length g.depots) g.horizon

  no_room : planner.have_room s asked figures marks ≡ false → (length figures < by_roads.ranks) ⊎ (length marks < 32 * suc g.horizon)
  no_room e =
      let same = ap (λ (S : Timetable). nat_le (meaning (length S.depots) S.horizon).ranks (length figures) && nat_le (32 * suc S.horizon) (length marks)) (sym is) in
      too_short by_roads.ranks (32 * suc g.horizon) (length figures) (length marks) (same ∙ e)

  no_fault : owed_fault s given ≡ None
  no_fault =
      let each = ap (λ (l : List ℕ). length l) owing ∙ length-map g.depots (λ y. owed_at y hs) ∙ sym (ap (λ (S : Timetable). length S.depots) is) in
      neither _ _ _ _ (eq-eqb _ _ each) low

  can_deliver : Servable (timetable_of s) (slice_index given)
  can_deliver =
      subst (λ (owed : List ℕ). Servable (timetable_of s) (slice_index owed)) (sym owing)
      (subst (λ (S : Timetable). Servable S (slice_index (owed_by g.depots hs))) (sym is) servable)

  pub quote_short : (r : Result Unit QuoteError) → planner.Quotes s given asked figures figures' marks marks' r → is_err r ≡ true
      → Quotes board by_roads figures figures' marks marks' (Err refusal.ListTooShort) board
  quote_short (Ok x) told e = cc
  quote_short (Err (Owed a)) told e = let c : None ≡ Some a = sym no_fault ∙ told.0 in cc
  quote_short (Err ListTooShort) told e = (inl (no_room told.1, refl), told.2, told.3, refl)
  quote_short (Err Unservable) told e = absurd (told.2 can_deliver)
