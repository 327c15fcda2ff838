use Rattle.std.proofs.Common.{◌≡◌, nat_lt, slice_index}
use Rattle.cut_sheet.specs.Bits.{bits_of}
use Rattle.cut_sheet.proofs.sheet.bits_above.Given as goal

abbrev pub invariant-loop-period : goal.invariant-loop-period
invariant-loop-period l = l.bits ≡ bits_of (λ t. nat_lt l.k (slice_index l.row t)) l.period
