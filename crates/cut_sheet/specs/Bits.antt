-- Numbers as sets: the bit of each number is set that passes a test.
use Rattle.std.specs.Prelude.{ℕ, zero, suc, ◌+◌, ◌*◌, ◌^◌, Bool, if◌then◌else◌}

-- of those below n
unfoldable pub bits_of : (ℕ → Bool) → ℕ → ℕ
bits_of p zero = 0
bits_of p (suc n) = (if p n then 1 else 0) * 2 ^ n + bits_of p n
