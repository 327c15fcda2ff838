use Rattle.std.proofs.Common.{◌≡◌, ◌++◌, string_bytes, map, take, vec_items}
use Rattle.lines.specs.Listing.{followed}
use Rattle.lines.proofs.listing.push_runs.Given as goal

abbrev pub invariant-loop-legs : goal.invariant-loop-legs
invariant-loop-legs l = string_bytes l.out ≡ string_bytes l.initial.out ++ followed (map vec_items (take l.legs-index l.runs))
