-- The texts of faults, byte by byte.
use Rattle.std.specs.Prelude.{ℕ, List, [], ◌∷◌, ◌++◌, codes, decimal}
use Rattle.dayfile.specs.declared.fault.Position.{Position}

-- words with one space between each two
abbrev pub words : List (List ℕ) → List ℕ
words [] = []
words (w ∷ []) = w
words (w ∷ v ∷ ws) = w ++ (codes " " ++ words (v ∷ ws))

-- a fault: its number, and the offset at which it was met
abbrev pub fault_text : ℕ → Position → List ℕ
fault_text k at = words (codes "no" ∷ decimal k ∷ codes "at" ∷ decimal at.offset ∷ [])
