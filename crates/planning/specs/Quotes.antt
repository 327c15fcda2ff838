-- What is answered where a quote is asked for, and what the lists for it become.
use Rattle.std.specs.Prelude.{◌≡◌, ℕ, suc, ◌*◌, Bool, true, false, ◌&&◌, List, length, drop, Some, None, Ok, Err, Result, nat_le, slice_index}
use Rattle.ranking.specs.Ranking.{Ranking}
use Rattle.timetable.specs.Plans.{Servable}
use Rattle.timetable.specs.Quotes.{Right}
use Rattle.expanded.specs.Made.{owed_fault}
use Rattle.expanded.specs.Schedules.{timetable_of}
use Rattle.expanded.specs.declared.schedule.Schedule.{Schedule}
use Rattle.planning.specs.declared.error.QuoteError.{QuoteError}
use Rattle.planning.specs.declared.error.QuoteError.TheVariants.{Owed, ListTooShort, Unservable}

-- how many places have a mark: those of 32 yards in each period
abbrev pub place_count : Schedule → ℕ
place_count s = 32 * suc s.horizon

-- there is a figure for each rank, and a mark for each place
abbrev pub have_room : Schedule → Ranking → List ℕ → List ℕ → Bool
have_room s Q figures marks = nat_le Q.ranks (length figures) && nat_le (place_count s) (length marks)

-- The lists hold a right quote, and are as they were past the figures of the ranks and the marks of the places. Or they are as
-- they were, and the first of these is told: what is wrong with what is owed, that a list is too short, or that no feasible plan
-- delivers all owed.
abbrev pub Quotes : Schedule → List ℕ → Ranking → List ℕ → List ℕ → List ℕ → List ℕ → Result Unit QuoteError → Type 0
Quotes s owed Q figures figures' marks marks' (Ok x) =
    (owed_fault s owed ≡ None) × (have_room s Q figures marks ≡ true)
    × Right (timetable_of s) (slice_index owed) Q figures' marks'
    × (drop Q.ranks figures' ≡ drop Q.ranks figures) × (drop (place_count s) marks' ≡ drop (place_count s) marks)
Quotes s owed Q figures figures' marks marks' (Err (Owed e)) = (owed_fault s owed ≡ Some e) × (figures' ≡ figures) × (marks' ≡ marks)
Quotes s owed Q figures figures' marks marks' (Err ListTooShort) =
    (owed_fault s owed ≡ None) × (have_room s Q figures marks ≡ false) × (figures' ≡ figures) × (marks' ≡ marks)
Quotes s owed Q figures figures' marks marks' (Err Unservable) =
    (owed_fault s owed ≡ None) × (have_room s Q figures marks ≡ true)
    × (Servable (timetable_of s) (slice_index owed) → ⊥) × (figures' ≡ figures) × (marks' ≡ marks)
