-- A plan is taken apart run by run.
use Rattle.std.proofs.Common.{◌≡◌, ℕ, ◌+◌, ◌<◌, ◌≤◌, List, [], ◌∷◌, ◌++◌, map, length, take, subst, ◌∙◌, arith}
use Rattle.std.proofs.lemmas.List.{length-append, map-append}
use Rattle.timetable.specs.Plans.{Timetable}
use Rattle.board.specs.States.{State, day}
use Rattle.run_sheet.specs.declared.leg.Leg.{Leg}
use Rattle.run_sheet.specs.Calls.{Lays, TakesRun, NoneLoaded, loaded}
use Rattle.run_sheet.specs.Lists.{load_count, loads_of, departing, Laid}
use Rattle.run_sheet.specs.Runs.{IsRun, carried}
use Rattle.run_sheet.specs.Splits.{EachRun, Splits, carried_by_all}
use Rattle.run_sheet.proofs.Counting.{loaded_le}

each_push : (S : Timetable) (runs : List (List Leg)) (legs : List Leg) → EachRun S runs → IsRun S legs → EachRun S (runs ++ legs ∷ [])
each_push S [] legs e r = (r, tt)
each_push S (first ∷ runs) legs (f, e) r = (f, each_push S runs legs e r)

all_push : (runs : List (List Leg)) (legs : List Leg) (l t : ℕ) → carried_by_all (runs ++ legs ∷ []) l t ≡ carried_by_all runs l t + carried legs l t
all_push [] legs l t = omega arith
all_push (first ∷ runs) legs l t = omega (arith, all_push runs legs l t)

-- Runs that were taken off, and a sheet with what is left.
pub record Splitting (s : State) (plan : ℕ → ℕ → ℕ) (s' : State) (xs : List ℕ) (runs : List (List Leg)) (ls : List Leg) : Type 0 where
  pub board : s' ≡ s
  pub room : load_count s ≤ length xs
  pub slots : length ls ≡ 47
  pub each : EachRun (day s) runs
  pub whole : (l t : ℕ) → l < 96 → t ≤ s.grid.horizon → loads_of s xs l t + carried_by_all runs l t ≡ departing s plan l t
  pub few : length runs + loaded s (loads_of s xs) ≤ loaded s (departing s plan)

pub map_push : {X Y : Type 0} (f : X → Y) (xs xs' : List X) (x : X) (y : Y) → xs' ≡ xs ++ x ∷ [] → f x ≡ y → map f xs' ≡ map f xs ++ y ∷ []
map_push f xs xs' x y e same = rw (e, ← same) (map-append f xs (x ∷ []))

moved : (left run before others all' plan : ℕ) → before + others ≡ plan → left + run ≡ before → all' ≡ others + run → left + all' ≡ plan
moved left run before others all' plan a b c = omega arith

one_fewer : (left before taken taken' plan : ℕ) → taken + before ≤ plan → left < before → taken' ≡ taken + 1 → taken' + left ≤ plan
one_fewer left before taken taken' plan a b c = omega arith

module _ (s : State) (plan : ℕ → ℕ → ℕ) where
  pub nothing_taken : (s' : State) (xs xs' : List ℕ) (ls : List Leg) (runs : List (List Leg)) → s' ≡ s → load_count s ≤ length xs → length ls ≡ 47 → runs ≡ [] → Lays s plan xs xs' → Splitting s plan s' xs' runs ls
  nothing_taken s' xs xs' ls runs board room slots none lays =
      let laid : Laid s plan xs' = lays.laid room in
      rw none (record {
        board = board;
        room = omega (arith, lays.long);
        slots = slots;
        each = tt;
        whole = λ l t lt le. omega (arith, laid l t lt le);
        few = omega (arith, loaded_le s (departing s plan) (loads_of s xs') (λ l t lt le. omega (arith, laid l t lt le)));
      })

  module _ (s' : State) (xs : List ℕ) (runs : List (List Leg)) (ls : List Leg) (so : Splitting s plan s' xs runs ls) where
    pub one_taken : (s'' : State) (xs' : List ℕ) (ls' : List Leg) (n : ℕ) (runs' : List (List Leg)) → s'' ≡ s' → TakesRun s' xs xs' ls ls' n → length ls' ≡ length ls → runs' ≡ runs ++ take n ls' ∷ [] → Splitting s plan s'' xs' runs' ls'
    one_taken s'' xs' ls' n runs' board takes long pushed =
        let run : TakesRun s xs xs' ls ls' n = subst (λ (r : State). TakesRun r xs xs' ls ls' n) so.board takes in
        rw pushed (record {
          board = board ∙ so.board;
          room = omega (arith, so.room, run.long);
          slots = long ∙ so.slots;
          each = each_push (day s) runs (take n ls') so.each run.run;
          whole = λ l t lt le. moved _ _ _ _ _ _ (so.whole l t lt le) (run.fell l t lt le) (all_push runs (take n ls') l t);
          few = one_fewer _ _ _ _ _ so.few run.fewer (length-append runs (take n ls' ∷ []));
        })

    pub fewer_left : (xs' : List ℕ) (ls' : List Leg) (n : ℕ) → TakesRun s' xs xs' ls ls' n → loaded s (loads_of s xs') < loaded s (loads_of s xs)
    fewer_left xs' ls' n takes =
        let run : TakesRun s xs xs' ls ls' n = subst (λ (r : State). TakesRun r xs xs' ls ls' n) so.board takes in
        run.fewer

    pub all_off : NoneLoaded s' xs → Splits s plan runs
    all_off none =
        let none' : NoneLoaded s xs = subst (λ (r : State). NoneLoaded r xs) so.board none in
        record {
          each = so.each;
          whole = λ l t lt le. omega (arith, so.whole l t lt le, none' l t lt le);
          few = omega (arith, so.few);
        }
