-- The lane network of a timetable, and the standing rate.
use Rattle.std.specs.Prelude.{◌≡◌, ℕ, suc, ◌+◌, ◌≤◌, true, false, ◌⊎◌, List, map, length, Some, None, Option, min, nat_le, unwrap_or, if◌then◌else◌}
use Rattle.std.specs.List.{range_with_len, filter, reduce}
use Rattle.flow.specs.declared.Arc.{Arc}
use Rattle.flow.specs.Network.{Network}
use Rattle.flow.specs.Checker.{Most}
use Rattle.timetable.specs.Plans.{Timetable, lane, is_depot, departs}

-- the smallest of the numbers, or 0 where there is none
abbrev pub smallest_of : List ℕ → ℕ
smallest_of xs = unwrap_or (reduce min xs) 0

-- the periods in which a lane of that transit departs
unfoldable pub departing : ℕ → ℕ → List ℕ
departing horizon transit = filter (λ t. nat_le (t + transit) horizon) (range_with_len 0 (suc horizon))

-- The nodes are the 32 yards. Their number stays shut, so that a sum over the nodes is never written out.
unfoldable pub yard_count : ℕ
yard_count = 32

-- Each lane is one arc. Its capacity is the smallest capacity of its departures, or 0 where it has no departure.
abbrev pub lane_capacity : Timetable → ℕ → ℕ
lane_capacity S l = smallest_of (map (S.capacity l) (departing S.horizon (lane S l).transit))

abbrev pub lane_arc : Timetable → ℕ → Arc
lane_arc S l = record { tail = (lane S l).from; head = (lane S l).to; capacity = lane_capacity S l }

abbrev pub lane_arcs : Timetable → List Arc
lane_arcs S = map (lane_arc S) (range_with_len 0 (length S.lanes))

-- Every depot has rank 0, and no other yard has a rank.
abbrev pub yard_rank : Timetable → ℕ → Option ℕ
yard_rank S y = if is_depot S y then Some 0 else None

-- The source is the origin.
abbrev pub lane_network : Timetable → Network
lane_network S = record { nodes = yard_count; source = S.origin; arcs = lane_arcs S; rank = yard_rank S }

-- The standing rate is the greatest flow from the origin to all depots on the lane network.
abbrev pub Rate : Timetable → ℕ → Type 0
Rate S n = Most (lane_network S) 1 n

abbrev pub OneRate : Type 0
OneRate = (S : Timetable) (m n : ℕ) → Rate S m → Rate S n → m ≡ n

-- The capacity of a lane, as it can be checked: no departure of the lane has a smaller one, and some departure has it, or the lane has
-- no departure and it is 0.
pub record IsSmallest (S : Timetable) (l c : ℕ) : Type 0 where
  pub least : (t : ℕ) → departs S l t ≡ true → c ≤ S.capacity l t
  pub taken : ((t : ℕ) × (departs S l t ≡ true) × (S.capacity l t ≡ c)) ⊎ (((t : ℕ) → departs S l t ≡ false) × (c ≡ 0))

abbrev pub CapacitySmallest : Type 0
CapacitySmallest = (S : Timetable) (l : ℕ) → IsSmallest S l (lane_capacity S l)
