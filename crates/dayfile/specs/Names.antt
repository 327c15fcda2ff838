-- What may be the name of a yard.
use Rattle.std.specs.Prelude.{ℕ, Bool, ◌&&◌, List, length, nat_le}
use Rattle.std.specs.List.{list_all}

-- a printable character of ASCII, from the space to the tilde
abbrev pub is_printable : ℕ → Bool
is_printable b = nat_le 32 b && nat_le b 126

-- each byte is one
abbrev pub is_text : List ℕ → Bool
is_text = list_all is_printable

-- a name has 1 to 24 such bytes
abbrev pub is_name : List ℕ → Bool
is_name bs = nat_le 1 (length bs) && nat_le (length bs) 24 && is_text bs
