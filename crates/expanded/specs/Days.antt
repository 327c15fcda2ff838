-- What a day network in memory means, and that it keeps to the limits. (A proof that a ghost member holds stands in specs/.)
use Rattle.std.specs.Prelude.{◌≡◌, ℕ, suc, ◌+◌, ◌*◌, ◌/◌, ◌%◌, ◌<◌, ◌≤◌, Bool, true, false, length, Some, None, Option, IfSome, nat_le, slice_index, if◌then◌else◌}
use Rattle.std.specs.Option.{option_map}
use Rattle.flow.specs.Network.{Network}
use Rattle.network.specs.Proper.{Proper}
use Rattle.ranking.specs.Ranking.{Ranking, Lawful}
use Rattle.std.proofs.Common.{refl, subst, ⊎_elim, arith, div-add-mod'}
use Rattle.std.proofs.lemmas.Nat.{div_below, mod_below}
use Rattle.std.proofs.lemmas.Bool.{cases_eq, cases_lt, lt-ltb}
use Rattle.flow.specs.Pushing.{no_arc}
use Rattle.std.proofs.lemmas.List.FromFn.{length-map-range_with_len}
use Rattle.flow.specs.declared.Arc.{Arc}
use Rattle.network.specs.Limits.{low_rank}
use Rattle.network.specs.Proper.{ArcsProper}
use Rattle.timetable.specs.Plans.{Timetable, Sound, depot}
use Rattle.timetable.specs.Live.{live_departure}
use Rattle.day_network.specs.DayNetwork.{day, arc_count, laid, no_departure, departure_arc, depot_arc, owed_arc, place_rank, node_rank}
use Rattle.day_network.proofs.FlowPlan.{day_sound}
use Rattle.day_network.proofs.Brought.{node_count_is, by_depot, depot_ranked, late_unranked, yard_unranked, rank_place, past_unranked}
use Rattle.day_network.proofs.Arcs.{length_listed, listed_at, by_arc, laid_departure, laid_place, laid_depot}
use Rattle.day_network.proofs.Nodes.{ends_low}
use Rattle.expanded.specs.Schedules.{timetable_of}
use Rattle.expanded.specs.declared.day.DayNetwork.{DayNetwork}

-- the ranking that it has, for its depots and its horizon
abbrev pub ranks_of : {R : Type 0} → (R → ℕ → ℕ → Ranking) → DayNetwork R → Option Ranking
ranks_of meaning n = option_map (λ r. meaning r (length n.schedule.depots.now) n.schedule.horizon) n.ranking

abbrev pub day_of : {R : Type 0} → (R → ℕ → ℕ → Ranking) → DayNetwork R → Network
day_of meaning n = day (timetable_of n.schedule) (slice_index n.owed.now) (ranks_of meaning n)

-- a capacity, if it counts
kept_low : (b : Bool) (c : ℕ) → c ≤ 46075392 → (if b then c else 0) ≤ 46075392
kept_low true c l = l
kept_low false c l = omega arith

live_low : (b : Bool) (a : Arc) → a.capacity ≤ 46075392 → (if b then a else no_departure).capacity ≤ 46075392
live_low true a l = l
live_low false a l = omega arith

-- its arcs have nodes at their ends, and no capacity is too large
arcs_low : (S : Timetable) → Sound S → (owed : ℕ → ℕ) → ((d : ℕ) → owed d ≤ 5119488) → (R : Option Ranking) → ArcsProper (day S owed R).nodes (day S owed R).arcs
arcs_low S sound owed low R e l =
    let N = day S owed R in
    let Low : Arc → Type 0 = λ a. (a.tail < N.nodes) × (a.head < N.nodes) × (a.capacity ≤ 46075392) in
    let A = departure_arc S in
    let B = depot_arc S owed in
    let C = owed_arc owed in
    let in' : e < arc_count S = omega (arith, length_listed S A B C) in
    rw (listed_at S A B C e no_arc in')
    (by_arc S (λ i. Low (laid S A B C i))
    (λ k t m n. rw (laid_departure S A B C k t m n) (omega (arith, node_count_is, (ends_low S sound k t m n).0), omega (arith, node_count_is, (ends_low S sound k t m n).1), live_low (live_departure S k t) _ (omega (arith, sound.bounded k t))))
    (λ d t m n. rw (laid_place S A B C d t m n) (omega (arith, node_count_is, (sound.yards d m).0), omega (arith, node_count_is, sound.few_depots), kept_low (nat_le t S.horizon) (owed d) (omega (arith, low d))))
    (λ d m. rw (laid_depot S A B C d m) (omega (arith, node_count_is, sound.few_depots), omega (arith, node_count_is), omega (arith, low d)))
    e in')

-- a rank is at most that of the last rank of the ranking, after all owed
place_low : (S : Timetable) → Sound S → (R : Option Ranking) → IfSome R (λ Q. Lawful (length S.depots) S.horizon Q) → (y u : ℕ) → low_rank (place_rank S R y u) ≡ true
place_low S sound None lawful y u = refl
place_low S sound (Some Q) lawful y u =
    by_depot S sound (λ y. low_rank (place_rank S (Some Q) y u) ≡ true)
    (λ d l. ⊎_elim
    (λ late. rw (late_unranked S sound (Some Q) (depot S d) u late) refl)
    (λ in'. rw (depot_ranked S sound Q d u l in') (lt-ltb (suc (Q.rank d u)) 1024 (omega (arith, lawful.few, lawful.low d u l in'))))
    (cases_lt S.horizon u))
    (λ y e. rw (yard_unranked S sound (Some Q) y u e) refl)
    y

ranks_low : (S : Timetable) → Sound S → (owed : ℕ → ℕ) (R : Option Ranking) → IfSome R (λ Q. Lawful (length S.depots) S.horizon Q) → (v : ℕ) → v < (day S owed R).nodes → low_rank ((day S owed R).rank v) ≡ true
ranks_low S sound owed R lawful v l =
    ⊎_elim
    (λ e. rw e refl)
    (λ ne. ⊎_elim
    (λ (m : v < 1536).
    let y : v / 48 < 32 = div_below v 48 32 (let z : 0 < 48 = omega arith in z) (let z : v < 32 * 48 = omega arith in z) in
    let u : v % 48 < 48 = mod_below v 48 (let z : 0 < 48 = omega arith in z) in
    let at : node_rank S R (v / 48 * 48 + v % 48) ≡ place_rank S R (v / 48) (v % 48) = rank_place S sound R (v / 48) (v % 48) y u in
    subst (λ (w : ℕ). low_rank (node_rank S R w) ≡ true) (div-add-mod' v 48) (rw at (place_low S sound R lawful (v / 48) (v % 48))))
    (λ m. rw (past_unranked S sound R v m ne) refl)
    (cases_lt v 1536))
    (cases_eq v 1553)

-- what holds of each ranking holds of the one that there is, if there is one
some_lawful : {X : Type 0} (f : X → Ranking) (P : Ranking → Type 0) → ((r : X) → P (f r)) → (o : Option X) → IfSome (option_map f o) P
some_lawful f P h None = tt
some_lawful f P h (Some r) = h r

pub day_proper : {R : Type 0} (meaning : R → ℕ → ℕ → Ranking) → ((r : R) (depots horizon : ℕ) → depots ≤ 16 → horizon ≤ 47 → Lawful depots horizon (meaning r depots horizon)) → (n : DayNetwork R) → Proper (day_of meaning n)
day_proper meaning lawful n =
    let S = timetable_of n.schedule in
    let R = ranks_of meaning n in
    record {
      sound = day_sound S n.schedule.sound (slice_index n.owed.now) R;
      few_nodes = omega (arith, node_count_is);
      few_arcs = omega (arith, length-map-range_with_len (laid S (departure_arc S) (depot_arc S (slice_index n.owed.now)) (owed_arc (slice_index n.owed.now))) 0 (arc_count S), n.schedule.sound.few_lanes, n.schedule.sound.few_depots);
      arcs = arcs_low S n.schedule.sound (slice_index n.owed.now) n.low R;
      low = ranks_low S n.schedule.sound (slice_index n.owed.now) R (some_lawful (λ r. meaning r (length n.schedule.depots.now) n.schedule.horizon) (λ Q. Lawful (length n.schedule.depots.now) n.schedule.horizon Q) (λ r. lawful r _ _ n.schedule.sound.few_depots n.schedule.sound.periods.1) n.ranking);
      past = λ v l. past_unranked S n.schedule.sound R v (omega (arith, node_count_is)) (λ e. omega (arith, node_count_is));
    }
