-- Runs of calls.
use Rattle.std.specs.Prelude.{List, [], ◌∷◌}

-- Calls and their answers lead from a state to another, in their order, each by a step.
pub data Ran {S C A : Type 0} (Step : S → C → A → S → Type 0) : S → List C → List A → S → Type 0 where
  none : {s : S} → Ran Step s [] [] s
  more : {s t u : S} {c : C} {a : A} {cs : List C} {said : List A} → Step s c a t → Ran Step t cs said u → Ran Step s (c ∷ cs) (a ∷ said) u
