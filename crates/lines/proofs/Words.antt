-- Lines that grow by a word.
use Rattle.std.proofs.Common.{◌≡◌, ℕ, ◌+◌, ◌<◌, List, [], ◌∷◌, ◌++◌, length, map, take, codes, decimal, get_or, refl, ap, sym, ◌∙◌, append_assoc}
use Rattle.std.proofs.lemmas.List.{take_more, map-append}
use Rattle.dayfile.specs.declared.mark.Mark.{Mark}
use Rattle.dayfile.specs.Marks.{letters}
use Rattle.dayfile.specs.Texts.{words}
use Rattle.session.specs.Replies.{figures}
use Rattle.run_sheet.specs.declared.leg.Leg.{Leg}
use Rattle.lines.specs.Lines.{reply_line, leg_text}

-- one word more, at the end
pub words-append : (w : List ℕ) (ws : List (List ℕ)) (v : List ℕ) → words (w ∷ (ws ++ v ∷ [])) ≡ words (w ∷ ws) ++ (codes " " ++ v)
words-append w [] v = refl
words-append w (u ∷ us) v = ap (λ t. w ++ (codes " " ++ t)) (words-append u us v) ∙ sym (append_assoc w (codes " " ++ words (u ∷ us)) (codes " " ++ v))

-- one figure more
pub figures_more : (n : ℕ) (m : Mark) (fs : List ℕ) (i : ℕ) → i < length fs
    → reply_line n m (figures (take (i + 1) fs)) ≡ reply_line n m (figures (take i fs)) ++ (codes " " ++ decimal (get_or fs i 0))
figures_more n m fs i within =
    ap (λ (ws : List (List ℕ)). words (decimal n ∷ letters m ∷ codes "ok" ∷ ws)) (ap (map decimal) (take_more fs i 0 within) ∙ map-append decimal (take i fs) (get_or fs i 0 ∷ []))
    ∙ words-append (decimal n) (letters m ∷ codes "ok" ∷ map decimal (take i fs)) (decimal (get_or fs i 0))

-- what is no leg
abbrev pub no_leg : Leg
no_leg = record { lane = 0; period = 0; pallets = 0 }

-- the line of a run whose pallets are given
abbrev pub run_words : ℕ → List Leg → List ℕ
run_words n legs = words ((decimal n ++ codes ":") ∷ map leg_text legs)

-- one leg more
pub legs_more : (n : ℕ) (legs : List Leg) (i : ℕ) → i < length legs → run_words n (take (i + 1) legs) ≡ run_words n (take i legs) ++ (codes " " ++ leg_text (get_or legs i no_leg))
legs_more n legs i within =
    ap (λ (ws : List (List ℕ)). words ((decimal n ++ codes ":") ∷ ws)) (ap (map leg_text) (take_more legs i no_leg within) ∙ map-append leg_text (take i legs) (get_or legs i no_leg ∷ []))
    ∙ words-append (decimal n ++ codes ":") (map leg_text (take i legs)) (leg_text (get_or legs i no_leg))
