-- The calls of a list, one by one.
use Rattle.std.proofs.Common.{◌≡◌, ◌<◌, List, [], ◌∷◌, ◌++◌, length, map, sym, ap, ◌∙◌, subst, arith}
use Rattle.std.proofs.lemmas.List.{map-append, length-append, append_assoc, append-nil, nil_from_length}
use Rattle.refusals.specs.Runs.{Ran}
use Rattle.refusals.proofs.Runs.{ran_push}

module _ {X : Type 0} (seen left later whole : List X) (x : X) (all : seen ++ left ≡ whole) (first : left ≡ x ∷ later) where
  -- not all calls were made yet
  pub fewer : length seen < length whole
  fewer = omega (arith, length-append seen left, ap (λ (l : List X). length l) all, ap (λ (l : List X). length l) first)

  pub one_more : (seen ++ x ∷ []) ++ later ≡ whole
  one_more = append_assoc seen (x ∷ []) later ∙ (ap (λ (l : List X). seen ++ l) (sym first) ∙ all)

-- one call more, with its answer
pub map_push : {X S C A B : Type 0} (Step : S → C → A → S → Type 0) (f : X → C) (h : B → A) (xs : List X) (x : X) (said said' : List B) (a : B) (s t u : S)
    → Ran Step s (map f xs) (map h said) t → Step t (f x) (h a) u → said' ≡ said ++ a ∷ [] → Ran Step s (map f (xs ++ x ∷ [])) (map h said') u
map_push {X} {S} {C} {A} {B} Step f h xs x said said' a s t u p step e =
    subst (λ (l : List B). Ran Step s (map f (xs ++ x ∷ [])) (map h l) u) (sym e)
    (subst (λ (l : List A). Ran Step s (map f (xs ++ x ∷ [])) l u) (sym (map-append h said (a ∷ [])))
    (subst (λ (l : List C). Ran Step s l (map h said ++ h a ∷ []) u) (sym (map-append f xs (x ∷ []))) (ran_push Step p step)))

-- before the first call
pub none_said : {S C A B : Type 0} (Step : S → C → A → S → Type 0) (h : B → A) (said : List B) (s : S) → said ≡ [] → Ran Step s [] (map h said) s
none_said {S} {C} {A} {B} Step h said s e = subst (λ (l : List B). Ran Step s [] (map h l) s) (sym e) Ran.none

pub none_left : {X : Type 0} (seen left whole : List X) → seen ++ left ≡ whole → length seen ≡ length whole → left ≡ []
none_left {X} seen left whole all e = nil_from_length left (omega (arith, length-append seen left, ap (λ (l : List X). length l) all, e))

-- after the last one
pub all_said : {X S C A : Type 0} (Step : S → C → A → S → Type 0) (f : X → C) (seen left whole : List X) (said : List A) (s t : S) → seen ++ left ≡ whole → left ≡ []
    → Ran Step s (map f seen) said t → Ran Step s (map f whole) said t
all_said {X} Step f seen left whole said s t all end p =
    subst (λ (l : List X). Ran Step s (map f l) said t) (sym (append-nil seen) ∙ (ap (λ (l : List X). seen ++ l) (sym end) ∙ all)) p
