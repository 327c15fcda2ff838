-- What a lane network in memory means, and that it keeps to the limits. (A proof that a ghost member holds stands in specs/.)
use Rattle.std.specs.Prelude.{take}
use Rattle.flow.specs.Network.{Network}
use Rattle.network.specs.Limits.{written}
use Rattle.network.specs.Proper.{Proper}
use Rattle.network.specs.Written.{written_proper}
use Rattle.lane_network.specs.declared.lanes.LaneNetwork.{LaneNetwork}

abbrev pub kept : LaneNetwork → Network
kept n = written n.source (take n.count n.arcs) n.ranks

pub kept_proper : (n : LaneNetwork) → Proper (kept n)
kept_proper n = written_proper n.source (take n.count n.arcs) n.ranks n.makes
