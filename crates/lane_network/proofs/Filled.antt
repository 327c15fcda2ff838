-- The arcs of the first lanes.
use Rattle.std.proofs.Common.{◌≡◌, ℕ, ◌+◌, ◌<◌, ◌≤◌, List, length, get_or, set, take, length-set, ◌∙◌, arith}
use Rattle.std.proofs.lemmas.List.{length-take-le, get_or-take}
use Rattle.std.proofs.lemmas.List.Edits.{fill_by_more}
use Rattle.std.proofs.lemmas.List.FromFn.{fill_by_all}
use Rattle.flow.specs.declared.Arc.{Arc}
use Rattle.flow.specs.Pushing.{no_arc}
use Rattle.timetable.specs.Plans.{Timetable, lane}
use Rattle.lane_network.specs.Lanes.{lane_capacity, lane_arc, lane_arcs}

-- the first n lanes have their arcs
pub record Filled (S : Timetable) (n : ℕ) (arcs : List Arc) : Type 0 where
  pub sized : length arcs ≡ 96
  pub first : (l : ℕ) → l < n → get_or arcs l no_arc ≡ lane_arc S l

pub filled_more : (S : Timetable) (n : ℕ) (arcs : List Arc) (tail head capacity : ℕ) → tail ≡ (lane S n).from → head ≡ (lane S n).to → capacity ≡ lane_capacity S n → n < 96 → Filled S n arcs → Filled S (n + 1) (set arcs n (record { tail = tail; head = head; capacity = capacity }))
filled_more S n arcs tail head capacity a b c l so =
    let same : ◌≡◌ {A = Arc} (record { tail = tail; head = head; capacity = capacity }) (lane_arc S n) = cc in
    rw same (record { sized = length-set arcs n (lane_arc S n) ∙ so.sized; first = fill_by_more (lane_arc S) arcs n no_arc (omega (arith, so.sized)) so.first })

pub filled_all : (S : Timetable) (n : ℕ) (arcs : List Arc) → n ≡ length S.lanes → n ≤ 96 → Filled S n arcs → take (length S.lanes) arcs ≡ lane_arcs S
filled_all S n arcs e l so =
    rw (← e) (fill_by_all (lane_arc S) (take n arcs) n no_arc (length-take-le n arcs (omega (arith, so.sized))) (λ k m. rw (get_or-take n arcs k no_arc m) (so.first k m)))
