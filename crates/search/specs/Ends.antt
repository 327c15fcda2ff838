-- The two ends of an arc, and what may go over it from each.
use Rattle.std.specs.Prelude.{ℕ, ◌+◌, ◌-◌, Bool, nat_lt}
use Rattle.flow.specs.declared.Arc.{Arc}
use Rattle.search.specs.declared.end.End.{End}
use Rattle.search.specs.declared.end.End.TheVariants.{Tail, Head}

abbrev pub end_of : End → Arc → ℕ
end_of Tail a = a.tail
end_of Head a = a.head

abbrev pub other : End → End
other Tail = Head
other Head = Tail

-- An arc may be crossed from its tail while there is room for more, and from its head while there is a load to take back.
abbrev pub usable_by : End → Arc → ℕ → Bool
usable_by Tail a load = nat_lt load a.capacity
usable_by Head a load = nat_lt 0 load

-- how much more may go over an arc from that end
abbrev pub spare_by : End → Arc → ℕ → ℕ
spare_by Tail a load = a.capacity - load
spare_by Head a load = load

-- its load once that is done
abbrev pub raised_by : End → ℕ → ℕ → ℕ
raised_by Tail load d = load + d
raised_by Head load d = load - d
