-- The lines of runs, one by one.
use Rattle.std.proofs.Common.{◌≡◌, ℕ, ◌+◌, ◌<◌, List, [], ◌∷◌, ◌++◌, length, map, take, get_or, ap, sym, ◌∙◌, append_assoc, append-nil}
use Rattle.std.proofs.lemmas.List.{take_more, map-append}
use Rattle.run_sheet.specs.declared.leg.Leg.{Leg}
use Rattle.lines.specs.Lines.{run_line}
use Rattle.lines.specs.Listing.{followed}

-- one run more, at the end
followed_push : (runs : List (List Leg)) (legs : List Leg) → followed (runs ++ legs ∷ []) ≡ followed runs ++ (10 ∷ run_line legs)
followed_push [] legs = ap (λ (l : List ℕ). 10 ∷ l) (append-nil (run_line legs))
followed_push (r ∷ rs) legs = ap (λ (l : List ℕ). 10 ∷ l) (ap (λ (l : List ℕ). run_line r ++ l) (followed_push rs legs) ∙ sym (append_assoc (run_line r) (followed rs) (10 ∷ run_line legs)))

pub runs_more : {X : Type 0} (legs_of : X → List Leg) (runs : List X) (i : ℕ) (d : X) → i < length runs
    → followed (map legs_of (take (i + 1) runs)) ≡ followed (map legs_of (take i runs)) ++ (10 ∷ run_line (legs_of (get_or runs i d)))
runs_more legs_of runs i d within =
    ap followed (ap (map legs_of) (take_more runs i d within) ∙ map-append legs_of (take i runs) (get_or runs i d ∷ []))
    ∙ followed_push (map legs_of (take i runs)) (legs_of (get_or runs i d))
