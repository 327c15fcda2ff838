-- The day network of a timetable: its flows are the plans, its cuts the cuts of the board.
use Rattle.std.specs.Prelude.{ℕ, zero, suc, ◌+◌, ◌-◌, ◌*◌, ◌/◌, ◌%◌, Bool, ◌&&◌, ◌||◌, List, map, length, Some, None, Option, ◌==◌, nat_le, nat_lt, slice_index, if◌then◌else◌}
use Rattle.std.specs.List.{range_with_len}
use Rattle.flow.specs.declared.Arc.{Arc}
use Rattle.flow.specs.Network.{Network}
use Rattle.timetable.specs.Plans.{Timetable, some_below, lane, depot}
use Rattle.timetable.specs.Live.{is_live, live_departure}
use Rattle.timetable.specs.Quotes.{Ranking, ahead}

-- Nodes: the place y@t is y × 48 + t; 1536 is the source, which stands for all origin places; 1537 + d is what is owed at the
-- depot d, and 1553 all that is owed. Their number stays shut, so that a sum over the nodes is never written out.
unfoldable pub node_count : ℕ
node_count = 1554

abbrev pub node : Timetable → ℕ → ℕ → ℕ
node S y t = if y == S.origin then 1536 else y * 48 + t

-- Arcs: one for each departure, which carries nothing where the departure is not live;
abbrev pub no_departure : Arc
no_departure = record { tail = 1536; head = 1536; capacity = 0 }

abbrev pub departure_arc : Timetable → ℕ → ℕ → Arc
departure_arc S l t =
    if live_departure S l t
    then record { tail = node S (lane S l).from t; head = node S (lane S l).to (t + (lane S l).transit); capacity = S.capacity l t }
    else no_departure

-- one for each depot place, to what is owed there;
abbrev pub depot_arc : Timetable → (ℕ → ℕ) → ℕ → ℕ → Arc
depot_arc S owed d t = record { tail = depot S d * 48 + t; head = 1537 + d; capacity = if nat_le t S.horizon then owed d else 0 }

-- and one for each depot, to all owed.
abbrev pub owed_arc : (ℕ → ℕ) → ℕ → Arc
owed_arc owed d = record { tail = 1537 + d; head = 1553; capacity = owed d }

-- The arcs are numbered in this order: the departure of the lane l in t is l × 48 + t, and so on.
abbrev pub lane_arcs : Timetable → ℕ
lane_arcs S = length S.lanes * 48

abbrev pub place_arcs : Timetable → ℕ
place_arcs S = lane_arcs S + length S.depots * 48

abbrev pub arc_count : Timetable → ℕ
arc_count S = place_arcs S + length S.depots

-- what a departure, a depot place and a depot give, by the number of the arc
abbrev pub laid : {X : Type 0} → Timetable → (ℕ → ℕ → X) → (ℕ → ℕ → X) → (ℕ → X) → ℕ → X
laid S a b c i =
    if nat_lt i (lane_arcs S) then a (i / 48) (i % 48)
    else if nat_lt i (place_arcs S) then b ((i - lane_arcs S) / 48) ((i - lane_arcs S) % 48)
    else c (i - place_arcs S)

abbrev pub listed : {X : Type 0} → Timetable → (ℕ → ℕ → X) → (ℕ → ℕ → X) → (ℕ → X) → List X
listed S a b c = map (laid S a b c) (range_with_len 0 (arc_count S))

-- Ranks: all owed comes first. With a ranking, the depot places up to the horizon follow; without, no other node has a rank.
abbrev pub depot_rank : Timetable → (ℕ → ℕ → ℕ) → ℕ → ℕ → ℕ → Option ℕ
depot_rank S rank zero y t = None
depot_rank S rank (suc n) y t = if depot S n == y then Some (suc (rank n t)) else depot_rank S rank n y t

abbrev pub place_rank : Timetable → Option Ranking → ℕ → ℕ → Option ℕ
place_rank S None y t = None
place_rank S (Some R) y t = if nat_le t S.horizon then depot_rank S R.rank (length S.depots) y t else None

abbrev pub node_rank : Timetable → Option Ranking → ℕ → Option ℕ
node_rank S R v = if v == 1553 then Some 0 else if nat_lt v 1536 then place_rank S R (v / 48) (v % 48) else None

abbrev pub day : Timetable → (ℕ → ℕ) → Option Ranking → Network
day S owed R =
    record { nodes = node_count; source = 1536; arcs = listed S (departure_arc S) (depot_arc S owed) (owed_arc owed); rank = node_rank S R }

-- the plan and the split in the loads of a flow, and what it brings to what is owed at a depot
abbrev pub plan_of : List ℕ → ℕ → ℕ → ℕ
plan_of f l t = slice_index f (l * 48 + t)

abbrev pub split_of : Timetable → List ℕ → ℕ → ℕ → ℕ
split_of S f d t = slice_index f (lane_arcs S + (d * 48 + t))

abbrev pub paid_of : Timetable → List ℕ → ℕ → ℕ
paid_of S f d = slice_index f (place_arcs S + d)

-- A board cut as a set of nodes, and back.
abbrev pub nodes_of : Timetable → (ℕ → ℕ → Bool) → ℕ → Bool
nodes_of S X v =
    if nat_lt v 1536 then X (v / 48) (v % 48)
    else v == 1536 || (nat_lt v 1553 && some_below (suc S.horizon) (X (depot S (v - 1537))))

abbrev pub board_of : Timetable → (ℕ → Bool) → ℕ → ℕ → Bool
board_of S Z y t = is_live S y t && (y == S.origin || Z (y * 48 + t))

-- what a plan and its split bring to the ranks below k, if there are ranks
abbrev pub extra : Timetable → Option Ranking → (ℕ → ℕ → ℕ) → (ℕ → ℕ → ℕ) → ℕ → ℕ
extra S None p q k = 0
extra S (Some R) p q k = ahead S R p q k
