-- What each kind of step does to slips, bookings, releases and numbers.
-- A call of any kind that leaves holds and hand as they were is `idle`.
use Rattle.std.proofs.Common.{◌≡◌, ℕ, zero, suc, ◌+◌, Bool, true, false, cond, eqb, List, [], ◌∷◌, ◌++◌, length, Some, None, count_by, Option, sym, refl, ap, ◌∙◌, add-zero, zero-add, arith, length-set}
use Rattle.std.specs.List.{slice_get, remove, range_with_len}
use Rattle.std.proofs.lemmas.Option.{get_or_from_slice_get, slice_get_within}
use Rattle.std.proofs.lemmas.List.{length_push, length-append}
use Rattle.std.proofs.lemmas.List.Sums.{sum_by-append, sum_by-remove, sum_by_push}
use Rattle.slips.specs.declared.moves.SlipState.{SlipState}
use Rattle.slips.specs.declared.moves.SlipState.TheVariants.{InHand, Pinned, Booked, Released}
use Rattle.slips.specs.declared.slip.Slip.{Slip}
use Rattle.slips.specs.Holds.{state_of, standing_of, entry_of}
use Rattle.slips.specs.Owed.{owes, owed_at}
use Rattle.slips.proofs.Owing.{owed_push, owed_move}
use Rattle.slips.specs.declared.moves.Act.{Act}
use Rattle.slips.specs.declared.moves.Act.TheVariants.{Pin, Book, Release, TearUp}
use Rattle.slip_runs.specs.declared.request.Request.{Request}
use Rattle.slip_runs.specs.declared.request.Answer.{Answer}
use Rattle.slip_runs.specs.Deeds.{Deed, nothing, held, picked_up, spent, deed, same, copies, spends, is_book, is_release, is_tear_up, torn, bookings, releases, given, promises, promised, frees, freed}
use Rattle.slip_runs.specs.Laws.{Laws, Onward, in_hand_count, booked, released}
use Rattle.slip_runs.specs.Rules.{World, Step, fresh, gains, loses, moved}
use Rattle.slip_runs.proofs.Changes.{Changed, MayStand, pushed, shifted, by_slip, by_number, onward_same, onward_on, onward_changed}

-- from one moment to a later one, with what was done between
pub record Between (w : World) (ds : List Deed) (u : World) : Type 0 where
  pub slips : (s : Slip) → copies s u.hand + torn s ds + in_hand_count (standing_of w.holds s) ≡ copies s w.hand + in_hand_count (standing_of u.holds s)
  pub books : (n : ℕ) → booked (state_of u.holds n) ≡ booked (state_of w.holds n) + bookings n ds
  pub frees : (n : ℕ) → released (state_of u.holds n) ≡ released (state_of w.holds n) + releases n ds
  pub gives : given ds ≡ range_with_len (length w.holds) (length (given ds))
  pub grows : length u.holds ≡ length w.holds + length (given ds)
  pub owes : (d : ℕ) → owed_at d u.holds + freed d ds ≡ owed_at d w.holds + promised d ds
  pub onward : Onward w.holds u.holds

-- no deed
pub still : (w : World) → Between w [] w
still w = record {
  slips = λ s. omega arith;
  books = λ n. omega arith;
  frees = λ n. omega arith;
  gives = refl;
  grows = omega arith;
  owes = λ d. omega arith;
  onward = onward_same w.holds;
}

-- a deed that changes neither holds nor hand
pub idle : (w : World) → Between w (nothing ∷ []) w
idle w = record {
  slips = λ s. omega arith;
  books = λ n. omega arith;
  frees = λ n. omega arith;
  gives = refl;
  grows = omega arith;
  owes = λ d. omega arith;
  onward = onward_same w.holds;
}

given_append : (ds es : List Deed) → given (ds ++ es) ≡ given ds ++ given es
given_append [] es = refl
given_append (nothing ∷ ds) es = given_append ds es
given_append (held s ∷ ds) es = ap (λ (ns : List ℕ). s.number ∷ ns) (given_append ds es)
given_append (picked_up n ∷ ds) es = given_append ds es
given_append (spent a s ∷ ds) es = given_append ds es

counting_append : (a m n : ℕ) → range_with_len a m ++ range_with_len (a + m) n ≡ range_with_len a (m + n)
counting_append a zero n = simp (add-zero, zero-add)
counting_append a (suc m) n =
    let up : a + suc m ≡ a + 1 + m = omega arith in
    let sum : suc (m + n) ≡ suc m + n = omega arith in
    ap (λ (k : ℕ). a ∷ (range_with_len (a + 1) m ++ range_with_len k n)) up
    ∙ ap (λ (ns : List ℕ). a ∷ ns) (counting_append (a + 1) m n)
    ∙ ap (range_with_len a) sum

-- one stretch after another
pub joined : (w m u : World) (ds es : List Deed) → Between w ds m → Between m es u → Between w (ds ++ es) u
joined w m u ds es p q =
    let all = given_append ds es in
    let many = ap length all ∙ length-append (given ds) (given es) in
    let up = p.grows in
    let more = q.grows in
    let next : length m.holds ≡ length w.holds + length (given ds) = up in
    record {
      slips = λ s. omega (arith, p.slips s, q.slips s, sum_by-append (λ d. cond (spends is_tear_up (same s) d) 1 0) ds es);
      books = λ n. omega (arith, p.books n, q.books n, sum_by-append (λ d. cond (spends is_book (λ s. eqb n s.number) d) 1 0) ds es);
      frees = λ n. omega (arith, p.frees n, q.frees n, sum_by-append (λ d. cond (spends is_release (λ s. eqb n s.number) d) 1 0) ds es);
      gives =
          all
          ∙ ap (λ (ns : List ℕ). ns ++ given es) p.gives
          ∙ ap (λ (ns : List ℕ). range_with_len (length w.holds) (length (given ds)) ++ ns) (q.gives ∙ ap (λ (k : ℕ). range_with_len k (length (given es))) next)
          ∙ counting_append (length w.holds) (length (given ds)) (length (given es))
          ∙ ap (range_with_len (length w.holds)) (sym many);
      grows = omega arith;
      owes = λ d. omega (arith, p.owes d, q.owes d, sum_by-append (frees d) ds es, sum_by-append (promises d) ds es);
      onward = onward_on w.holds m.holds u.holds p.onward q.onward;
    }

count_by_removed : {A : Type 0} (q : A → Bool) (h : List A) (i : ℕ) (x : A) → slice_get h i ≡ Some x → count_by q (remove h i) + cond (q x) 1 0 ≡ count_by q h
count_by_removed {A} q h i x at =
    omega (
      arith,
      sum_by-remove (λ a. cond (q a) 1 0) h i x (slice_get_within h i x at),
      ap {B = ℕ} (λ (a : A). cond (q a) 1 0) (get_or_from_slice_get h i x x at),
    )

cond_same : (b : Bool) (n : ℕ) → cond b n n ≡ n
cond_same true n = refl
cond_same false n = refl

-- a deed that changes one hold
module _ (w u : World) (s : Slip) (o : Option SlipState) (x : SlipState) (c : Changed w.holds u.holds s o x) (may : MayStand o x) (d : Deed) where
  changes : ((t : Slip) → copies t u.hand + torn t (d ∷ []) + cond (same t s) (in_hand_count o) 0 ≡ copies t w.hand + cond (same t s) (in_hand_count (Some x)) 0)
      → ((n : ℕ) → cond (eqb n s.number) (booked (Some x)) 0 ≡ cond (eqb n s.number) (booked o) 0 + bookings n (d ∷ []))
      → ((n : ℕ) → cond (eqb n s.number) (released (Some x)) 0 ≡ cond (eqb n s.number) (released o) 0 + releases n (d ∷ []))
      → given (d ∷ []) ≡ range_with_len (length w.holds) (length (given (d ∷ [])))
      → length u.holds ≡ length w.holds + length (given (d ∷ []))
      → ((e : ℕ) → owed_at e u.holds + freed e (d ∷ []) ≡ owed_at e w.holds + promised e (d ∷ []))
      → Between w (d ∷ []) u
  changes f g h numbers more owed = record {
    slips = λ t. omega (arith, f t, by_slip w.holds u.holds s o x c in_hand_count t);
    books = λ n. omega (arith, g n, by_number w.holds u.holds s o x c booked n);
    frees = λ n. omega (arith, h n, by_number w.holds u.holds s o x c released n);
    gives = numbers;
    grows = more;
    owes = owed;
    onward = onward_changed w.holds u.holds s o x c may;
  }

-- a hold
pub holds_between : (w : World) (s : Slip) → s.number ≡ length w.holds
    → Between w (held s ∷ []) (gains w (w.holds ++ entry_of s InHand ∷ []) s)
holds_between w s e =
    changes w (gains w (w.holds ++ entry_of s InHand ∷ []) s) s None InHand (pushed w.holds s InHand e) tt (held s)
    (λ t. omega (arith, sum_by_push (λ a. cond (same t a) 1 0) w.hand s, cond_same (same t s) 0))
    (λ n. omega (arith, cond_same (eqb n s.number) 0))
    (λ n. omega (arith, cond_same (eqb n s.number) 0))
    (ap (λ (n : ℕ). n ∷ []) e)
    (omega (arith, length_push w.holds (entry_of s InHand)))
    (λ d. omega (arith, owed_push d w.holds (entry_of s InHand)))

-- a pick-up
pub picks_between : (w : World) (s : Slip) → standing_of w.holds s ≡ Some Pinned → Between w (picked_up s.number ∷ []) (gains w (moved w s InHand) s)
picks_between w s e =
    changes w (gains w (moved w s InHand) s) s (Some Pinned) InHand (shifted w.holds s Pinned InHand e) tt (picked_up s.number)
    (λ t. omega (arith, sum_by_push (λ a. cond (same t a) 1 0) w.hand s, cond_same (same t s) 0))
    (λ n. omega (arith, cond_same (eqb n s.number) 0))
    (λ n. omega (arith, cond_same (eqb n s.number) 0))
    refl
    (omega (arith, length-set w.holds s.number (entry_of s InHand)))
    (λ d. omega (arith, owed_move d w.holds s InHand Pinned e))

-- a slip spent on its hold, and one torn up
module _ (w : World) (i : ℕ) (s : Slip) (at : slice_get w.hand i ≡ Some s) where
  gone : (t : Slip) → copies t (remove w.hand i) + cond (same t s) 1 0 ≡ copies t w.hand
  gone t = count_by_removed (same t) w.hand i s at

  module _ (e : standing_of w.holds s ≡ Some InHand) where
    leaves : (a : Act) (x : SlipState) → in_hand_count (Some x) ≡ 0
        → ((t : Slip) → torn t (spent a s ∷ []) ≡ 0)
        → ((n : ℕ) → cond (eqb n s.number) (booked (Some x)) 0 ≡ bookings n (spent a s ∷ []))
        → ((n : ℕ) → cond (eqb n s.number) (released (Some x)) 0 ≡ releases n (spent a s ∷ []))
        → ((d : ℕ) → owes d (entry_of s x) + freed d (spent a s ∷ []) ≡ owes d (entry_of s InHand))
        → Between w (spent a s ∷ []) (loses w (moved w s x) i)
    leaves a x out none f g owed =
        changes w (loses w (moved w s x) i) s (Some InHand) x (shifted w.holds s InHand x e) tt (spent a s)
        (λ t. omega (arith, gone t, none t, ap (λ (k : ℕ). cond (same t s) k 0) out, cond_same (same t s) 0))
        (λ n. omega (arith, f n, cond_same (eqb n s.number) 0))
        (λ n. omega (arith, g n, cond_same (eqb n s.number) 0))
        refl
        (omega (arith, length-set w.holds s.number (entry_of s x)))
        (λ d. omega (arith, owed d, owed_move d w.holds s x InHand e))

    pub pins_between : Between w (spent Pin s ∷ []) (loses w (moved w s Pinned) i)
    pins_between = leaves Pin Pinned refl (λ t. refl) (λ n. cond_same (eqb n s.number) 0) (λ n. cond_same (eqb n s.number) 0) (λ d. omega arith)

    pub books_between : Between w (spent Book s ∷ []) (loses w (moved w s Booked) i)
    books_between = leaves Book Booked refl (λ t. refl) (λ n. sym (zero-add (cond (eqb n s.number) 1 0))) (λ n. cond_same (eqb n s.number) 0) (λ d. omega arith)

    pub releases_between : Between w (spent Release s ∷ []) (loses w (moved w s Released) i)
    releases_between = leaves Release Released refl (λ t. refl) (λ n. cond_same (eqb n s.number) 0) (λ n. sym (zero-add (cond (eqb n s.number) 1 0))) (λ d. omega arith)

  pub tears_between : Between w (spent TearUp s ∷ []) (loses w w.holds i)
  tears_between = record {
    slips = λ t. omega (arith, gone t);
    books = λ n. omega arith;
    frees = λ n. omega arith;
    gives = refl;
    grows = omega arith;
    owes = λ d. omega arith;
    onward = onward_same w.holds;
  }

-- every step by the rules
pub step_between : {w u : World} {r : Request} {a : Answer} → Step w r a u → Between w (deed r a ∷ []) u
step_between {w} (Step.accepts s e lt) = holds_between w s e
step_between {w} (Step.none_left le) = idle w
step_between {w} (Step.picks_up s e) = picks_between w s e
step_between {w} (Step.not_pinned ne) = idle w
step_between {w} (Step.pins {i} {s} at e) = pins_between w i s at e
step_between {w} (Step.books {i} {s} at e) = books_between w i s at e
step_between {w} (Step.releases {i} {s} at e) = releases_between w i s at e
step_between {w} (Step.not_in_hand at ne other) = idle w
step_between {w} (Step.tears_up {i} {s} at ne) = tears_between w i s at
step_between {w} (Step.in_hand at e) = idle w
step_between {w} (Step.no_slip le) = idle w

-- a stretch from the start is lawful
pub lawful : (start : List Slip) (ds : List Deed) (w : World) → Between (fresh start) ds w → Laws start ds w
lawful start ds w b =
    let many : length (given ds) ≡ length w.holds = omega (arith, b.grows) in
    record {
      slips = λ s. omega (arith, b.slips s);
      booked_once = λ n. omega (arith, b.books n);
      released_once = λ n. omega (arith, b.frees n);
      numbers = b.gives ∙ ap (range_with_len 0) many;
      owed = λ d. omega (arith, b.owes d);
    }
