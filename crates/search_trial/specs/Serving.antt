-- What a trial gets, and the text of it.
use Rattle.std.specs.Prelude.{◌≡◌, ℕ, ◌<◌, ◌≤◌, List, [], ◌∷◌, ◌++◌, Ok, Err, Result, vec_items, codes, decimal}
use Rattle.flow.specs.Network.{Network}
use Rattle.network.specs.Stored.{stored_meaning}
use Rattle.search.specs.Errors.{error_text}
use Rattle.search.specs.Served.{Served}
use Rattle.search.specs.declared.error.SearchError.{SearchError}
use Rattle.search.specs.declared.error.SearchError.TheVariants.{TooManyRanks}
use Rattle.search_trial.specs.declared.trial.Trial.{Trial}

-- The ranks are served; or more than 1,024 are asked for, and all is as it was.
abbrev pub Gets : Network → ℕ → List ℕ → List ℕ → List ℕ → List ℕ → List ℕ → List ℕ → Result Unit SearchError → Type 0
Gets N ranks loads loads' marks marks' figures figures' (Ok x) = (ranks ≤ 1024) × Served N ranks loads' marks' figures'
Gets N ranks loads loads' marks marks' figures figures' (Err e) =
    (1024 < ranks) × (e ≡ TooManyRanks) × (loads' ≡ loads) × (marks' ≡ marks) × (figures' ≡ figures)

-- The trial t becomes u: its network and the number of ranks stay, and its answer tells what it gets.
abbrev pub Serves : Trial → Trial → Type 0
Serves t u =
    (u.net ≡ t.net) × (u.ranks ≡ t.ranks)
    × Gets (stored_meaning t.net) t.ranks (vec_items t.loads) (vec_items u.loads) (vec_items t.marks) (vec_items u.marks) (vec_items t.figures) (vec_items u.figures) u.answer

-- numbers with a comma and a space between each two
abbrev pub commas : List ℕ → List ℕ
commas [] = []
commas (n ∷ []) = decimal n
commas (n ∷ m ∷ ns) = decimal n ++ (codes ", " ++ commas (m ∷ ns))

-- the same between brackets
abbrev pub list_text : List ℕ → List ℕ
list_text ns = codes "[" ++ commas ns ++ codes "]"

-- the figures and the marks, or why there are none
abbrev pub answer_text : Result Unit SearchError → List ℕ → List ℕ → List ℕ
answer_text (Ok x) figures marks = codes "figures " ++ list_text figures ++ codes " marks " ++ list_text marks
answer_text (Err e) figures marks = error_text e

-- the text of what a trial gets
abbrev pub text_of : Trial → List ℕ
text_of t = answer_text t.answer (vec_items t.figures) (vec_items t.marks)
