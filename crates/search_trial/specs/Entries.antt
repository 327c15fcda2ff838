-- What a few numbers write, and lists of that.
use Rattle.std.specs.Prelude.{ℕ, ◌*◌, ◌-◌, List, drop, map, min, Some, None, Option, if◌then◌else◌, nat_lt, slice_index, slice_index_or}
use Rattle.std.specs.List.{range_with_len}
use Rattle.flow.specs.declared.Arc.{Arc}

-- the number of 16 bits at a place: a larger one counts as the largest, and so does one that is not there
abbrev pub short : List ℕ → ℕ → ℕ
short ns i = min (slice_index_or ns i 65535) 65535

-- a rank, which is written as one more than it, and none as 0
abbrev pub rank_of : List ℕ → Option ℕ
rank_of ns = if nat_lt 0 (short ns 0) then Some (short ns 0 - 1) else None

-- an arc: its tail, its head and its capacity, which is 0 if it is not there
abbrev pub arc_of : List ℕ → Arc
arc_of ns = record { tail = short ns 0; head = short ns 1; capacity = slice_index ns 2 }

-- so many entries, each written by as many numbers
abbrev pub entries : {X : Type 0} → (List ℕ → X) → ℕ → ℕ → List ℕ → List X
entries entry width count ns = map (λ i. entry (drop (width * i) ns)) (range_with_len 0 count)
