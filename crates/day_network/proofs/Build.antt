-- A program's lists of arcs and ranks as the day network.
use Rattle.std.proofs.Common.{◌≡◌, ℕ, ◌≤◌, List, length, get_or, None, Option, sym, ap, ◌∙◌, ⊎_elim, arith}
use mathlib.Core.Path.{fun_ext}
use Rattle.std.proofs.lemmas.List.FromFn.{fill_by_all}
use Rattle.std.proofs.lemmas.List.{get_or_past}
use Rattle.std.proofs.lemmas.Bool.{cases_lt, le-ltb, ne_eqb}
use Rattle.flow.specs.declared.Arc.{Arc}
use Rattle.flow.specs.Network as net
use Rattle.flow.specs.Pushing.{no_arc}
use Rattle.timetable.specs.Plans.{Timetable}
use Rattle.timetable.specs.Quotes.{Ranking}
use Rattle.day_network.specs.DayNetwork.{node_count, departure_arc, depot_arc, owed_arc, arc_count, laid, listed, node_rank, day}
use Rattle.day_network.specs.DayTheory.{Built, BuiltIsDay}
use Rattle.day_network.proofs.Arcs.{by_arc, laid_departure, laid_place, laid_depot}
use Rattle.day_network.proofs.Brought.{node_count_is}

module _ (S : Timetable) (owed : ℕ → ℕ) (R : Option Ranking) (arcs : List Arc) (ranks : List (Option ℕ)) (built : Built S owed R arcs ranks) where
  arcs_are : arcs ≡ listed S (departure_arc S) (depot_arc S owed) (owed_arc owed)
  arcs_are =
      let A = departure_arc S in
      let B = depot_arc S owed in
      let C = owed_arc owed in
      fill_by_all (laid S A B C) arcs (arc_count S) no_arc built.count
      (by_arc S (λ i. get_or arcs i no_arc ≡ laid S A B C i)
      (λ l t m n. built.departures l t m n ∙ sym (laid_departure S A B C l t m n))
      (λ d t m n. built.places d t m n ∙ sym (laid_place S A B C d t m n))
      (λ d m. built.depots d m ∙ sym (laid_depot S A B C d m)))

  ranks_are : (λ v. get_or ranks v None) ≡ node_rank S R
  ranks_are = fun_ext (λ v. ⊎_elim (λ l. built.ranked v (omega (arith, l)))
      (λ l. get_or_past ranks v None (omega (arith, built.nodes)) ∙ sym (past v l)) (cases_lt v 1554))
    where
      past : (v : ℕ) → 1554 ≤ v → node_rank S R v ≡ None
      past v l = rw (ne_eqb v 1553 (λ e. omega arith), le-ltb v 1536 (omega arith))

  pub is_day : ◌≡◌ {A = net.Network} (record { nodes = length ranks; source = 1536; arcs = arcs; rank = λ v. get_or ranks v None }) (day S owed R)
  is_day =
      let n : length ranks ≡ node_count = built.nodes ∙ sym node_count_is in
      ap (λ (n : ℕ). with_nodes n) n ∙ (ap (λ (es : List Arc). with_arcs es) arcs_are ∙ ap (λ (r : ℕ → Option ℕ). with_ranks r) ranks_are)
    where
      with_nodes : ℕ → net.Network
      with_nodes n = record { nodes = n; source = 1536; arcs = arcs; rank = λ v. get_or ranks v None }

      with_arcs : List Arc → net.Network
      with_arcs es = record { nodes = node_count; source = 1536; arcs = es; rank = λ v. get_or ranks v None }

      with_ranks : (ℕ → Option ℕ) → net.Network
      with_ranks r = record { nodes = node_count; source = 1536; arcs = listed S (departure_arc S) (depot_arc S owed) (owed_arc owed); rank = r }

pub built_is_day : BuiltIsDay
built_is_day = is_day
