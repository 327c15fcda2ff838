-- The loads of a feasible plan, laid out in a list, flow.
use Rattle.std.proofs.Common.{◌≡◌, ℕ, suc, ◌-◌, ◌<◌, ◌≤◌, true, ◌&&◌, eqb, leb, List, ◌++◌, length, drop, sym, ap, ◌∙◌, arith}
use Rattle.std.proofs.lemmas.Bool.{le-leb, leb-true, lt-ltb, and_parts, and_from, cond-true, cond-false}
use Rattle.std.proofs.lemmas.List.{length-append, length-drop, get_or_append_left}
use Rattle.std.proofs.lemmas.Slice.{drop-append-drop}
use Rattle.flow.proofs.Sums.{total_same}
use Rattle.timetable.proofs.Sums.{cond_same}
use Rattle.timetable.specs.Plans.{Timetable, Sound, lane, departs, arriving, leaving, Feasible}
use Rattle.planning.proofs.Places.{place_low}
use Rattle.board.specs.States.{State, day}
use Rattle.run_sheet.specs.Lists.{load_count, place_of, loads_of, Laid, Flows, Idle, Kept}
use Rattle.run_sheet.specs.Calls.{Lays}

pub load_low : (s : State) (l t : ℕ) → l < 96 → t ≤ s.grid.horizon → place_of s l t < load_count s
load_low s l t lt le = place_low 96 (suc s.grid.horizon) l t lt (omega arith)

module _ (s : State) (sound : Sound (day s)) (plan : ℕ → ℕ → ℕ) (xs : List ℕ) (laid : Laid s plan xs) where
  abbrev S : Timetable
  S = day s

  abbrev p : ℕ → ℕ → ℕ
  p = loads_of s xs

  laid_at : (l t : ℕ) → l < length S.lanes → departs S l t ≡ true → p l t ≡ plan l t
  laid_at l t lt d =
      laid l t (omega (arith, sound.few_lanes)) (omega (arith, leb-true _ _ d))
      ∙ cond-true _ (plan l t) 0 (and_from _ _ (lt-ltb l (length S.lanes) lt) d)

  arriving_laid : (y u : ℕ) → u ≤ S.horizon → arriving S p y u ≡ arriving S plan y u
  arriving_laid y u le =
      total_same (length S.lanes) _ _
      (λ l lt. cond_same (eqb (lane S l).to y && leb (lane S l).transit u) _ _
      (λ e. let late = leb-true (lane S l).transit u (and_parts (eqb (lane S l).to y) (leb (lane S l).transit u) e).1 in
      laid_at l (u - (lane S l).transit) lt (le-leb _ _ (omega arith))))

  leaving_laid : (y u : ℕ) → leaving S p y u ≡ leaving S plan y u
  leaving_laid y u =
      total_same (length S.lanes) _ _
      (λ l lt. cond_same (eqb (lane S l).from y && departs S l u) _ _ (λ e. laid_at l u lt (and_parts (eqb (lane S l).from y) (departs S l u) e).1))

  pub laid_flows : Feasible S plan → Flows S p
  laid_flows f = (
    (λ y u le away no. arriving_laid y u le ∙ f.passes y u le away no ∙ sym (leaving_laid y u)),
    (λ y u le yes'. omega (arith, arriving_laid y u le, leaving_laid y u, f.keeps y u le yes')),
  )

  pub laid_idle : Idle s p
  laid_idle l t lt le none = laid l t lt le ∙ cond-false _ (plan l t) 0 none

-- what laying leaves
module _ (s : State) (plan : ℕ → ℕ → ℕ) (xs xs' : List ℕ) (same : length xs' ≡ length xs) where
  pub lays_long : (n : ℕ) (ys : List ℕ) → n ≡ load_count s → n ≤ length xs → xs' ≡ ys ++ drop n xs → Laid s plan ys → Lays s plan xs xs'
  lays_long n ys e room made laid =
      let count : length ys ≡ n = omega (arith, ap length made, length-append ys (drop n xs), length-drop n xs) in
      record {
        long = same;
        laid = λ _. λ l t lt le. rw made (get_or_append_left ys (drop n xs) 0 (place_of s l t) (omega (arith, load_low s l t lt le)) ∙ laid l t lt le);
        past = ap (drop (load_count s)) made ∙ drop-append-drop n xs ys (load_count s) (omega (arith, e)) count;
        short = λ short. absurd (omega arith);
      }

  pub lays_short : length xs < load_count s → xs' ≡ xs → Lays s plan xs xs'
  lays_short short e = record { long = same; laid = λ room. absurd (omega arith); past = ap (drop (load_count s)) e; short = λ _. e }

pub lays_kept : (s : State) (sound : Sound (day s)) (plan : ℕ → ℕ → ℕ) (xs xs' : List ℕ) → Feasible (day s) plan → Lays s plan xs xs' → Kept s xs'
lays_kept s sound plan xs xs' f lays room =
    let laid : Laid s plan xs' = lays.laid (omega (arith, lays.long)) in
    (laid_flows s sound plan xs' laid f, laid_idle s sound plan xs' laid)
