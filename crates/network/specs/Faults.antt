-- What can be wrong with lists of arcs and ranks, in words.
use Rattle.std.specs.Prelude.{ℕ, List, codes}
use Rattle.network.specs.declared.stored.NetworkError.{NetworkError}
use Rattle.network.specs.declared.stored.NetworkError.TheVariants.{TooManyNodes, TooManyArcs, SourceIsNoNode, SourceHasRank, EndIsNoNode, CapacityTooLarge, RankTooHigh}

abbrev pub fault_text : NetworkError → List ℕ
fault_text TooManyNodes = codes "too many nodes"
fault_text TooManyArcs = codes "too many arcs"
fault_text SourceIsNoNode = codes "the source is no node"
fault_text SourceHasRank = codes "the source has a rank"
fault_text EndIsNoNode = codes "an end is no node"
fault_text CapacityTooLarge = codes "a capacity is too large"
fault_text RankTooHigh = codes "a rank is too high"
