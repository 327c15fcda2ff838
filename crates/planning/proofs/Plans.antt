-- The plan that a search over a day network finds.
use Rattle.std.proofs.Common.{◌≡◌, ℕ, ◌+◌, ◌*◌, ◌<◌, ◌≤◌, false, length, List, take, get_or, None, sym, ◌∙◌, arith}
use Rattle.std.proofs.lemmas.List.{get_or-take}
use Rattle.search.specs.Served.{Served}
use Rattle.timetable.specs.Plans.{Timetable, Sound, Feasible, Delivers, departs}
use Rattle.timetable.specs.Live.{live_departure}
use Rattle.timetable.specs.Quotes.{all_owed}
use Rattle.day_network.specs.DayNetwork.{day, lane_arcs, plan_of, split_of, paid_of, departure_arc, depot_arc, owed_arc}
use Rattle.day_network.proofs.Arcs.{length_listed}
use Rattle.day_network.proofs.FlowPlan.{flow_delivers, planned, listed_flow, quiet}
use Rattle.planning.proofs.Brought.{serves}
use Rattle.planning.proofs.Loads.{delivers_same, feasible_same}

-- a plan that delivers just what is owed, with 0 where nothing departs
pub record Told (S : Timetable) (owed : ℕ → ℕ) (p : ℕ → ℕ → ℕ) : Type 0 where
  pub feasible : Feasible S p
  pub delivers : Delivers S owed p
  pub nowhere_else : (l t : ℕ) → l < length S.lanes → t < 48 → departs S l t ≡ false → p l t ≡ 0

-- what does not depart is not live
not_live : (S : Timetable) (l t : ℕ) → departs S l t ≡ false → live_departure S l t ≡ false
not_live S l t e = rw e

module _ (S : Timetable) (sound : Sound S) (owed : ℕ → ℕ) (loads marks figures : List ℕ) where
  abbrev count : ℕ
  count = length (day S owed None).arcs

  module _ (served : Served (day S owed None) 1 (take count loads) marks (take 1 figures)) (all : get_or figures 0 0 ≡ all_owed S owed) where
    found : Told S owed (plan_of (take count loads))
    found =
        let f = take count loads in
        let brings = serves S sound owed None 1 f marks (take 1 figures) served (omega arith) (get_or-take 1 figures 0 0 (omega arith) ∙ all) in
        let still = quiet S sound owed None (plan_of f) (split_of S f) (paid_of S f) (listed_flow S sound owed None f served.flow) in
        record {
          feasible = (planned S sound owed None f served.flow brings).feasible;
          delivers = flow_delivers S sound owed f served.flow brings;
          nowhere_else = λ l t m n e. still l t m n (not_live S l t e);
        }

    -- a list that begins with the loads of the lanes is such a plan
    pub told : (list : List ℕ) → ((i : ℕ) → i < lane_arcs S → get_or list i 0 ≡ get_or (take (lane_arcs S) loads) i 0) → Told S owed (plan_of list)
    told list front =
        let p = plan_of (take count loads) in
        let q = plan_of list in
        let longer : lane_arcs S ≤ count = omega (arith, length_listed S (departure_arc S) (depot_arc S owed) (owed_arc owed)) in
        let at : (i : ℕ) → i < lane_arcs S → get_or list i 0 ≡ get_or (take count loads) i 0 =
        λ i l. front i l ∙ get_or-take (lane_arcs S) loads i 0 l ∙ sym (get_or-take count loads i 0 (omega arith)) in
        let same : (l t : ℕ) → l < length S.lanes → t < 48 → q l t ≡ p l t = λ l t m n. at (l * 48 + t) (omega arith) in
        record {
          feasible = feasible_same S sound p q same found.feasible;
          delivers = delivers_same S sound p q same owed found.delivers;
          nowhere_else = λ l t m n e. same l t m n ∙ found.nowhere_else l t m n e;
        }
