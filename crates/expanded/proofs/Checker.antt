-- Lists that pass the test are a timetable within its bounds.
use Rattle.std.proofs.Common.{◌≡◌, ℕ, ◌≤◌, true, leb, List, [], length, get_or, ⊎_elim, arith}
use Rattle.std.specs.List.{list_all}
use Rattle.std.proofs.lemmas.Bool.{cases_lt, and_parts, eqb-true, leb-true}
use Rattle.std.proofs.lemmas.List.{get_or_past}
use Rattle.std.proofs.lemmas.List.Sums.{AllPass-from_list_all}
use Rattle.timetable.proofs.Rows.{sound_from}
use Rattle.expanded.specs.Checker.{is_low, table_of, ListsSound}

-- a bound on the numbers of a row holds of whatever is read there, and so of whatever is read in rows
row_low : (row : List ℕ) → is_low row ≡ true → (t : ℕ) → get_or row t 0 ≤ 9999
row_low row e t =
    ⊎_elim (λ l. leb-true _ _ (AllPass-from_list_all (λ c. leb c 9999) row e t 0 l)) (λ l. omega (arith, get_or_past row t 0 l)) (cases_lt t (length row))

rows_low : (rows : List (List ℕ)) → list_all is_low rows ≡ true → (l t : ℕ) → get_or (get_or rows l []) t 0 ≤ 9999
rows_low rows e l t =
    ⊎_elim (λ m. row_low (get_or rows l []) (AllPass-from_list_all is_low rows e l [] m) t)
    (λ m. rw (get_or_past rows l [] m) (omega arith)) (cases_lt l (length rows))

pub lists_sound : ListsSound
lists_sound horizon origin lanes capacities depots e =
    let a = and_parts _ _ e in
    let b = and_parts _ _ a.0 in
    let bare = sound_from (table_of horizon origin lanes depots) b.0 in (
      record {
        periods = bare.periods;
        origin = bare.origin;
        few_lanes = bare.few_lanes;
        ends = bare.ends;
        outward = bare.outward;
        transits = bare.transits;
        bounded = rows_low capacities b.1;
        few_depots = bare.few_depots;
        yards = bare.yards;
        apart = bare.apart;
      },
      eqb-true _ _ a.1,
    )
