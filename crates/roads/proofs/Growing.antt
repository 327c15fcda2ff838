-- Roads with one lane or one depot more are sound.
use Rattle.std.proofs.Common.{◌≡◌, ℕ, zero, suc, ◌<◌, ◌≤◌, Bool, true, false, ◌||◌, ◌≢◌, List, [], ◌∷◌, ◌++◌, length, replicate, get_or, ◌==◌, sym, refl, ap, ◌∙◌, subst, ⊎_elim, arith}
use Rattle.std.specs.List.{list_any}
use Rattle.std.specs.Prelude.{slice_index, slice_index_or}
use Rattle.std.proofs.Math.ListN.{get_or-append}
use Rattle.std.proofs.Math.Seq.{get_or-append_seam}
use Rattle.std.proofs.Math.Bool.{or_assoc}
use Rattle.std.proofs.lemmas.List.{length-append, get_or_past}
use Rattle.std.proofs.lemmas.Bool.{cases_lt, eq-eqb}
use Rattle.timetable.specs.declared.Lane.{Lane}
use Rattle.timetable.specs.Plans.{Timetable, Sound, some_below, is_depot, depot}
use Rattle.timetable.proofs.Sums.{none_below}
use Rattle.expanded.specs.Lists.{timetable_by}

-- a list with one entry more: what holds of each entry, old and new
module _ {X : Type 0} (xs : List X) (x d : X) where
  pub pushed_at : (P : X → Type 0) → ((i : ℕ) → i < length xs → P (get_or xs i d)) → P x → (i : ℕ) → i < length (xs ++ x ∷ []) → P (get_or (xs ++ x ∷ []) i d)
  pushed_at P old new i l =
      ⊎_elim
      (λ lt. subst P (sym (get_or-append xs (x ∷ []) d i lt)) (old i lt))
      (λ ge. let last : length xs ≡ i = omega (arith, length-append xs (x ∷ [])) in
      subst (λ (k : ℕ). P (get_or (xs ++ x ∷ []) k d)) last (subst P (sym (get_or-append_seam xs x [] d)) new))
      (cases_lt i (length xs))

-- a test at some number up to n, from the first on
some_first : (n : ℕ) (p : ℕ → Bool) → some_below (suc n) p ≡ (p 0 || some_below n (λ i. p (suc i)))
some_first zero p = elim (p 0) as (λ b. (false || b) ≡ (b || false)) [ true ↦ refl | false ↦ refl ]
some_first (suc n) p = ap (λ b. b || p (suc n)) (some_first n p) ∙ or_assoc (p 0) (some_below n (λ i. p (suc i))) (p (suc n))

pub any_is_some : (y : ℕ) (xs : List ℕ) → list_any (λ x. x == y) xs ≡ some_below (length xs) (λ d. slice_index xs d == y)
any_is_some y [] = refl
any_is_some y (x ∷ xs) = ap (λ b. (x == y) || b) (any_is_some y xs) ∙ sym (some_first (length xs) (λ d. slice_index (x ∷ xs) d == y))

replicate_low : (n x i m : ℕ) → x ≤ m → slice_index (replicate n x) i ≤ m
replicate_low zero x i m l = omega arith
replicate_low (suc n) x zero m l = l
replicate_low (suc n) x (suc i) m l = replicate_low n x i m l

-- no entry is the one that comes, and no two before are the same
apart_more : (xs : List ℕ) (y : ℕ) → ((d : ℕ) → d < length xs → slice_index xs d ≢ y) → ((d e : ℕ) → d < length xs → e < length xs → slice_index xs d ≡ slice_index xs e → d ≡ e)
    → (d e : ℕ) → d < length (xs ++ y ∷ []) → e < length (xs ++ y ∷ []) → slice_index (xs ++ y ∷ []) d ≡ slice_index (xs ++ y ∷ []) e → d ≡ e
apart_more xs y new old d e dl el same =
    ⊎_elim
    (λ dlt. ⊎_elim
    (λ elt. old d e dlt elt (sym (get_or-append xs (y ∷ []) 0 d dlt) ∙ same ∙ get_or-append xs (y ∷ []) 0 e elt))
    (λ ege. absurd (new d dlt (sym (get_or-append xs (y ∷ []) 0 d dlt) ∙ same ∙ at_end e ege el)))
    (cases_lt e (length xs)))
    (λ dge. ⊎_elim
    (λ elt. absurd (new e elt (sym (get_or-append xs (y ∷ []) 0 e elt) ∙ sym same ∙ at_end d dge dl)))
    (λ ege. omega (arith, length-append xs (y ∷ [])))
    (cases_lt e (length xs)))
    (cases_lt d (length xs))
  where
    at_end : (i : ℕ) → length xs ≤ i → i < length (xs ++ y ∷ []) → slice_index (xs ++ y ∷ []) i ≡ y
    at_end i ge l = let last : length xs ≡ i = omega (arith, length-append xs (y ∷ [])) in subst (λ (k : ℕ). slice_index (xs ++ y ∷ []) k ≡ y) last (get_or-append_seam xs y [] 0)

module _ (horizon origin : ℕ) (lanes : List Lane) (rows : List (List ℕ)) (depots : List ℕ) where
  abbrev S : Timetable
  S = timetable_by horizon origin lanes rows depots

  -- the capacities, with a row more
  row_bounded : (capacity : ℕ) → capacity ≤ 9999 → ((l t : ℕ) → S.capacity l t ≤ 9999) → (l t : ℕ) → slice_index (slice_index_or (rows ++ replicate 48 capacity ∷ []) l []) t ≤ 9999
  row_bounded capacity low old l t =
      ⊎_elim
      (λ lt. pushed_at rows (replicate 48 capacity) [] (λ row. slice_index row t ≤ 9999) (λ i m. old i t) (replicate_low 48 capacity t 9999 low) l lt)
      (λ ge. rw (get_or_past (rows ++ replicate 48 capacity ∷ []) l [] ge) (omega arith))
      (cases_lt l (length (rows ++ replicate 48 capacity ∷ [])))

  pub lane_more : Sound S → (x : Lane) (capacity : ℕ) → length rows ≡ length lanes → x.from < 32 → x.to < 32 → 1 ≤ x.transit → x.transit ≤ 47 → capacity ≤ 9999
      → x.to ≢ origin → x.to ≢ x.from → length lanes < 96
      → Sound (timetable_by horizon origin (lanes ++ x ∷ []) (rows ++ replicate 48 capacity ∷ []) depots)
  lane_more sound x capacity same from to short long low away other room = record {
    periods = sound.periods;
    origin = sound.origin;
    few_lanes = omega (arith, length-append lanes (x ∷ []));
    ends = pushed_at lanes x _ (λ a. (a.from < 32) × (a.to < 32)) sound.ends (from, to);
    outward = pushed_at lanes x _ (λ a. (a.to ≢ origin) × (a.to ≢ a.from)) sound.outward (away, other);
    transits = pushed_at lanes x _ (λ a. (1 ≤ a.transit) × (a.transit ≤ 47)) sound.transits (short, long);
    bounded = row_bounded capacity low sound.bounded;
    few_depots = sound.few_depots;
    yards = sound.yards;
    apart = sound.apart;
  }

  pub depot_more : Sound S → (y : ℕ) → y < 32 → y ≢ origin → is_depot S y ≡ false → length depots < 16
      → Sound (timetable_by horizon origin lanes rows (depots ++ y ∷ []))
  depot_more sound y low away new room = record {
    periods = sound.periods;
    origin = sound.origin;
    few_lanes = sound.few_lanes;
    ends = sound.ends;
    outward = sound.outward;
    transits = sound.transits;
    bounded = sound.bounded;
    few_depots = omega (arith, length-append depots (y ∷ []));
    yards = pushed_at depots y 0 (λ z. (z < 32) × (z ≢ origin)) sound.yards (low, away);
    apart = apart_more depots y (λ d l e. let f : true ≡ false = sym (eq-eqb _ _ e) ∙ none_below (length depots) (λ k. depot S k == y) new d l in cc) sound.apart;
  }
