-- A list that is a table of rows, each of w entries: entry t of row r stands at r × w + t.
use Rattle.std.proofs.Common.{◌≡◌, ℕ, ◌+◌, ◌*◌, ◌/◌, ◌%◌, ◌<◌, List, slice_index, ◌∙◌, ap₂, arith}
use Rattle.std.proofs.lemmas.Nat.{div-mul-add, mod-mul-add, mul-add-lt}

pub place_low : (rows w r t : ℕ) → r < rows → t < w → r * w + t < rows * w
place_low rows w r t l m = omega (arith, mul-add-lt r w t rows l m)

-- what is written for each number is so for each row and entry
pub by_place : (rows w : ℕ) (f : ℕ → ℕ → ℕ) (xs : List ℕ) → ((k : ℕ) → k < rows * w → slice_index xs k ≡ f (k / w) (k % w)) → (r t : ℕ) → r < rows → t < w → slice_index xs (r * w + t) ≡ f r t
by_place rows w f xs told r t l m = told (r * w + t) (place_low rows w r t l m) ∙ ap₂ f (div-mul-add r w t m) (mod-mul-add r w t m)
