-- What is found is a run, and with it off the loads flow on.
use Rattle.std.proofs.Common.{◌≡◌, ℕ, ◌+◌, ◌<◌, ◌≤◌, true, List, length, None, refl, sym, subst, inr, ⊎_elim, arith}
use Rattle.refusals.specs.Refusals.{Decides}
use Rattle.timetable.specs.Plans.{Timetable, Sound, is_depot, leaving}
use Rattle.board.specs.States.{State, day}
use Rattle.run_sheet.specs.declared.leg.Leg.{Leg}
use Rattle.run_sheet.specs.Lists.{load_count, loads_of, Kept, Flows, Idle}
use Rattle.run_sheet.specs.Runs.{Goes, IsRun, carried}
use Rattle.run_sheet.specs.Finding.{Found, LeavesNone}
use Rattle.run_sheet.specs.Taking.{Ready, Taken, with_pallets}
use Rattle.run_sheet.specs.Calls.{TakesRun, NoneLoaded, taking_rules, loaded}
use Rattle.run_sheet.proofs.Carrying.{Together}
use Rattle.run_sheet.proofs.Chains.{goes_with, even_with, length_with, least_some, arrive_at_end, ready}
use Rattle.run_sheet.proofs.Counting.{fewer_loaded, emptied}
use Rattle.run_sheet.proofs.Flowing.{none_left, leaving_nothing, depot_at_end, flows_on}

pub long_enough : (s : State) (loads legs : ℕ) → load_count s ≤ loads → s.grid.horizon ≤ legs → Decides (taking_rules s loads legs) None
long_enough s loads legs a b = inr (⊎_elim (λ l. omega arith) (λ l. omega arith), refl)

module _ (s : State) (sound : Sound (day s)) (xs : List ℕ) (room : load_count s ≤ length xs) (kept : Kept s xs) where
  abbrev S : Timetable
  S = day s

  abbrev p : ℕ → ℕ → ℕ
  p = loads_of s xs

  flows : Flows S p
  flows = (kept room).0

  idle : Idle s p
  idle = (kept room).1

  pub no_run : ((t : ℕ) → t ≤ S.horizon → LeavesNone s p S.origin t) → NoneLoaded s xs
  no_run none l t lt le = none_left s sound p flows idle none l t lt le

  module _ (start x : ℕ) (legs : List Leg) (found : Found s p start legs x) where
    pub ready_now : Ready s p x 0 legs
    ready_now = ready s sound p x legs S.origin start found.yard found.end 0 found.goes found.bears (omega arith)

    stops : leaving S p found.yard found.end ≡ 0
    stops = leaving_nothing s sound p flows idle found.yard found.end found.stops

    delivered : is_depot S found.yard ≡ true
    delivered =
        let (some, away) = arrive_at_end s sound p x legs S.origin start found.yard found.end found.goes found.bears found.some (least_some p x legs found.least) in
        depot_at_end s sound p flows idle found.yard found.end found.within away some stops

    goes : Goes S S.origin start (with_pallets x legs) found.yard found.end
    goes = goes_with S x legs S.origin start found.yard found.end found.goes

    run : IsRun S (with_pallets x legs)
    run = record {
      pallets = x;
      some = found.some;
      even = even_with x legs;
      start = start;
      depot = found.yard;
      end = found.end;
      goes = goes;
      delivered = delivered;
      legs_some = omega (arith, length_with x legs, least_some p x legs found.least);
    }

    module _ (xs' : List ℕ) (ls ls' : List Leg) (n : ℕ) (taken : Taken s x legs xs xs' ls ls' n) where
      abbrev q : ℕ → ℕ → ℕ
      q = loads_of s xs'

      off : Together S p q (carried (with_pallets x legs))
      off l t lt le = taken.fell l t (omega (arith, sound.few_lanes)) le

      pub kept_on : Kept s xs'
      kept_on _ = (
        flows_on s sound p flows idle q x (with_pallets x legs) start found.yard found.end goes (even_with x legs) delivered stops off,
        λ l t lt le none. omega (arith, taken.fell l t lt le, idle l t lt le none),
      )

      fewer : loaded s q < loaded s p
      fewer =
          let e = emptied s p x 0 legs ready_now found.least in
          fewer_loaded s p q (λ l t lt le. omega (arith, taken.fell l t lt le)) e.lane e.period e.few e.within (omega (arith, e.had, found.some)) (omega (arith, taken.fell e.lane e.period e.few e.within, e.had, e.taken))

      pub takes_run : length xs' ≡ length xs → s.grid.horizon ≤ length ls → TakesRun s xs xs' ls ls' n
      takes_run same few = record {
        room = omega (arith, taken.count, found.few);
        run = subst (λ (ks : List Leg). IsRun S ks) (sym taken.written) run;
        unwritten = taken.unwritten;
        long = same;
        fell = λ l t lt le. subst (λ (ks : List Leg). q l t + carried ks l t ≡ p l t) (sym taken.written) (taken.fell l t lt le);
        past = taken.past;
        fewer = fewer;
      }
