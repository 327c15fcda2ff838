-- The day network that a value in memory means, by what it was made of; and all that is owed, as a sum over a list.
use Rattle.std.proofs.Common.{◌≡◌, ℕ, zero, suc, ◌+◌, List, [], ◌∷◌, length, get_or, slice_index, Option, refl, ap, ◌∙◌, arith}
use Rattle.std.specs.List.{sum}
use Rattle.std.specs.Option.{option_map}
use Rattle.std.proofs.lemmas.List.Sums.{sum_by-cons}
use Rattle.flow.specs.Network.{Network, total}
use Rattle.ranking.specs.Ranking.{Ranking}
use Rattle.timetable.specs.Plans.{Timetable}
use Rattle.timetable.specs.Quotes.{all_owed}
use Rattle.day_network.specs.DayNetwork.{day}
use Rattle.expanded.specs.Days.{day_of}
use Rattle.expanded.specs.Schedules.{timetable_of}
use Rattle.expanded.specs.declared.schedule.Schedule.{Schedule}
use Rattle.expanded.specs.declared.day.DayNetwork.{DayNetwork}

-- the day network of a schedule, of what is owed, and of a ranking if there is one
abbrev pub network_of : {R : Type 0} → (R → ℕ → ℕ → Ranking) → Schedule → List ℕ → Option R → Network
network_of meaning s owed r = day (timetable_of s) (slice_index owed) (option_map (λ q. meaning q (length s.depots.now) s.horizon) r)

pub network_is : {R : Type 0} (meaning : R → ℕ → ℕ → Ranking) (n : DayNetwork R) (s : Schedule) (owed : List ℕ) (r : Option R) → n.schedule ≡ s → n.owed.now ≡ owed → n.ranking ≡ r → day_of meaning n ≡ network_of meaning s owed r
network_is meaning n s owed r e f g =
    ap (λ x. network_of meaning x n.owed.now n.ranking) e ∙ ap (λ x. network_of meaning s x n.ranking) f ∙ ap (network_of meaning s owed) g

-- the first number, and the others
total_first : (n : ℕ) (g : ℕ → ℕ) → total (suc n) g ≡ g 0 + total n (λ i. g (suc i))
total_first zero g = omega arith
total_first (suc n) g = omega (arith, total_first n g)

sum_is : (xs : List ℕ) → sum xs ≡ total (length xs) (λ i. get_or xs i 0)
sum_is [] = refl
sum_is (x ∷ xs) = omega (arith, sum_by-cons (λ y. y) x xs, sum_is xs, total_first (length xs) (λ i. get_or (x ∷ xs) i 0))

pub owed_sum : (S : Timetable) (owed : List ℕ) → length owed ≡ length S.depots → sum owed ≡ all_owed S (slice_index owed)
owed_sum S owed e = sum_is owed ∙ ap (λ n. total n (slice_index owed)) e
