-- The decimal numbers of a text.
use Rattle.std.specs.Prelude.{ℕ, ◌%◌, ◌^◌, not, List, length, map, nat_lt}
use Rattle.std.specs.Char.{is_ascii_digit}
use Rattle.std.specs.List.{filter, slice_split}
use Rattle.std.specs.Str.Parse.{digits_value}
use Rattle.search_trial.specs.declared.numbers.Numbers.{Numbers}

-- a text is cut at each byte that is no digit, and the digits between two cuts, if there are any, are a number modulo 2 ^ 32
abbrev pub numbers : List ℕ → List ℕ
numbers text = map (λ ds. digits_value 10 ds % 2 ^ 32) (filter (λ ds. nat_lt 0 (length ds)) (slice_split (λ b. not (is_ascii_digit b)) text))

-- the numbers that are still to be read
abbrev pub left : Numbers → List ℕ
left s = numbers s.rest.now
