-- How lists of numbers are printed.
use Rattle.std.proofs.Common.{◌≡◌, ℕ, List, [], ◌∷◌, ◌++◌, Some, Ok, codes, decimal, refl, ap, sym, ◌∙◌, append_assoc}
use Rattle.std.specs.Fmt.{debug_items, debug_list, comma_space, ◌++?◌}
use Rattle.std.proofs.lemmas.List.{append-nil}
use Rattle.search_trial.specs.Serving.{commas, list_text, answer_text}

-- the numbers behind the first
behind : (n : ℕ) (ns : List ℕ) → debug_items (λ k. Some (decimal k)) comma_space (n ∷ ns) ≡ Some (codes ", " ++ commas (n ∷ ns))
behind n [] = ap (λ t. Some (codes ", " ++ t)) (append-nil (decimal n))
behind n (m ∷ ns) = ap (λ o. Some comma_space ++? Some (decimal n) ++? o) (behind m ns)

listed : (ns : List ℕ) → debug_items (λ k. Some (decimal k)) [] ns ≡ Some (commas ns)
listed [] = refl
listed (n ∷ []) = ap (λ t. Some t) (append-nil (decimal n))
listed (n ∷ m ∷ ns) = ap (λ o. Some [] ++? Some (decimal n) ++? o) (behind m ns)

pub shows : (ns : List ℕ) → debug_list (λ k. Some (decimal k)) ns ≡ Some (list_text ns)
shows ns = ap (λ o. Some (91 ∷ []) ++? o ++? Some (93 ∷ [])) (listed ns)

-- the sentence of what a trial gets
pub sentence : (x : Unit {0}) (fs ms : List ℕ) → Some (codes "figures ") ++? debug_list (λ k. Some (decimal k)) fs ++? Some (codes " marks ") ++? debug_list (λ k. Some (decimal k)) ms ≡ Some (answer_text (Ok x) fs ms)
sentence x fs ms =
    ap (λ o. Some (codes "figures ") ++? o ++? Some (codes " marks ") ++? debug_list (λ k. Some (decimal k)) ms) (shows fs)
    ∙ ap (λ o. Some (codes "figures ") ++? Some (list_text fs) ++? Some (codes " marks ") ++? o) (shows ms)
    ∙ ap (λ t. Some t) (sym (append_assoc (codes "figures " ++ list_text fs) (codes " marks ") (list_text ms)))
