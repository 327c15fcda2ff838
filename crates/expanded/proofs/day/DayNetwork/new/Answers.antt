use Rattle.std.proofs.Common.{◌≡◌, true, sym, refl, ◌∙◌, ⊎_elim, arith}
use Rattle.std.specs.List.{list_all}
use Rattle.std.proofs.lemmas.Bool.{cases_lt, leb-true}
use Rattle.std.proofs.lemmas.List.{get_or_past}
use Rattle.std.proofs.lemmas.List.Sums.{AllPass-from_list_all}
use Rattle.expanded.specs.Made.{is_within}
use Rattle.expanded.specs.Schedules.{timetable_of}
use Rattle.expanded.proofs.day.DayNetwork.new.Goals as goal

pub invariant_of-result : goal.invariant_of-result
invariant_of-result g c =
    let owed = c.args.owed.now in
    let s = c.args.schedule in
    let all : list_all is_within owed ≡ true = sym c.all_within.ensures ∙ c.if-not-all_within.false in
    record {
      counted = omega arith;
      low = λ d. ⊎_elim
          (λ l. leb-true _ _ (AllPass-from_list_all is_within owed all d 0 l))
          (λ l. omega (arith, get_or_past owed d 0 l))
          (cases_lt d _);
      timed = c.new-live.ensures (timetable_of s) s.sound refl refl refl refl;
    }
