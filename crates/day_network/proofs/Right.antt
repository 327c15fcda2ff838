-- Right quotes: figures and marks as lists; and that there is one.
use Rattle.std.proofs.Common.{◌≡◌, ℕ, zero, suc, ◌+◌, ◌-◌, ◌*◌, ◌<◌, ◌≤◌, Bool, true, false, cond, eqb, ltb, List, get_or, Some, sym, refl, ◌∙◌, subst, ⊎_elim, arith}
use mathlib.Core.Path.{fun_ext}
use Rattle.std.proofs.lemmas.Bool.{both_ways, cases_lt, cases_eq, cases_Bool, eq-eqb, ne_eqb, lt-ltb, le-ltb, le-leb, lt-leb, and_parts, and_from, or_cases, or_left, or_right}
use Rattle.flow.specs.Network as net
use Rattle.flow.specs.Theory.{Smallest}
use Rattle.flow.proofs.Ranks.{nested}
use Rattle.flow.proofs.Existence.{best_exists, greatest_bottleneck}
use Rattle.timetable.specs.Plans.{Timetable, Sound}
use Rattle.timetable.specs.Live.{is_live}
use Rattle.timetable.specs.Quotes.{Ranking, all_owed, marked, SmallestFull, Right}
use Rattle.day_network.specs.DayNetwork.{day, board_of}
use Rattle.day_network.specs.DayTheory.{figures_of, mark_of, SmallestCuts, QuoteRight, QuoteExists}
use Rattle.flow.proofs.Sums.{total_same}
use Rattle.flow.specs.Network.{total}
use Rattle.day_network.proofs.Brought.{node_count_is}
use Rattle.day_network.proofs.FlowPlan.{day_sound}
use Rattle.day_network.proofs.Cuts.{live_inside}
use Rattle.day_network.proofs.DayQuotes.{servable_brought, quoted}

-- how many of the tests below n pass
abbrev passed : (ℕ → Bool) → ℕ → ℕ
passed P n = total n (λ k. cond (P k) 1 0)

passed_le : (P : ℕ → Bool) (n : ℕ) → passed P n ≤ n
passed_le P zero = omega arith
passed_le P (suc n) = omega (arith, one (P n), passed_le P n)
  where
    one : (b : Bool) → cond {A = ℕ} b 1 0 ≤ 1
    one true = omega arith
    one false = omega arith

passed_more : (P : ℕ → Bool) (a b : ℕ) → passed P a ≤ passed P (a + b)
passed_more P a zero = let e : a + 0 ≡ a = omega arith in rw e (omega arith)
passed_more P a (suc b) = let e : a + suc b ≡ suc (a + b) = omega arith in rw e (omega (arith, passed_more P a b))

passed_all : (P : ℕ → Bool) (n : ℕ) → ((j : ℕ) → j < n → P j ≡ true) → passed P n ≡ n
passed_all P zero e = refl
passed_all P (suc n) e = rw (e n (omega arith)) (omega (arith, passed_all P n (λ j l. e j (omega arith))))

passed_none : (P : ℕ → Bool) (a b : ℕ) → ((j : ℕ) → a ≤ j → j < a + b → P j ≡ false) → passed P (a + b) ≡ passed P a
passed_none P a zero e = let q : a + 0 ≡ a = omega arith in rw q
passed_none P a (suc b) e =
    let q : a + suc b ≡ suc (a + b) = omega arith in
    let z : cond {A = ℕ} (P (a + b)) 1 0 ≡ 0 = rw (e (a + b) (omega arith) (omega arith)) in
    rw q (omega (arith, passed_none P a b (λ j l m. e j l (omega arith))))

-- where a test passes only if those before it do, as many pass as come before the first that fails
nested_count : (P : ℕ → Bool) (n : ℕ) → ((j k : ℕ) → j ≤ k → k < n → P k ≡ true → P j ≡ true) → (k : ℕ) → k < n → ltb k (passed P n) ≡ P k
nested_count P n down k l =
    let e : suc k + (n - suc k) ≡ n = omega arith in
    let q : k + (n - k) ≡ n = omega arith in
    ⊎_elim
    (λ t. lt-ltb k (passed P n) (omega (arith, rw e at (passed_more P (suc k) (n - suc k)), passed_all P (suc k) (λ j m. down j k (omega arith) l t))) ∙ sym t)
    (λ f. le-ltb k (passed P n) (omega (arith, passed_le P k, rw q at (passed_none P k (n - k) (λ j a b. fails j a (omega arith) f)))) ∙ sym f)
    (cases_Bool (P k))
  where
    fails : (j : ℕ) → k ≤ j → j < n → P k ≡ false → P j ≡ false
    fails j a m f = ⊎_elim (λ t. absurd (both_ways (P k) f (down k j a m t))) (λ g. g) (cases_Bool (P j))

module _ (S : Timetable) (sound : Sound S) (owed : ℕ → ℕ) (R : Ranking) (f : List ℕ) (Z : ℕ → ℕ → Bool) (flow : net.Flow (day S owed (Some R)) f) (serves : net.brought (day S owed (Some R)) 1 f ≡ all_owed S owed) (cuts : SmallestCuts S owed R f Z) where
  -- the cuts shrink as k grows
  boards_nested : (y t j k : ℕ) → j ≤ k → k < suc R.ranks → board_of S (Z k) y t ≡ true → board_of S (Z j) y t ≡ true
  boards_nested y t j k l m e =
      let both = and_parts (is_live S y t) _ e in
      let board = live_inside S sound y t both.0 in
      let into = nested (day S owed (Some R)) f (suc j) (suc k) (Z k) (Z j) (omega arith) (cuts j (omega arith)).1.0 (cuts k (omega arith)).1 in
      and_from (is_live S y t) _ both.0 (⊎_elim (λ o. or_left (eqb y S.origin) _ o) (λ z. or_right (eqb y S.origin) (Z j (y * 48 + t)) (into (y * 48 + t) (omega (arith, node_count_is, sound.periods.1)) z)) (or_cases (eqb y S.origin) _ both.1))

  module _ (figures marks : List ℕ) (figured : (r : ℕ) → r < R.ranks → get_or figures r 0 ≡ figures_of S owed R f r) (counted : (y t : ℕ) → y < 32 → t ≤ S.horizon → get_or marks (y * suc S.horizon + t) 0 ≡ mark_of S R Z y t) where
    -- a place is marked above k just where the cut for k holds it
    mark_at : (k : ℕ) → k ≤ R.ranks → (y t : ℕ) → marked S marks k y t ≡ board_of S (Z k) y t
    mark_at k l y t =
        ⊎_elim
        (λ (a : y < 32). ⊎_elim
        (λ (b : S.horizon < t). rw (lt-ltb y 32 a, lt-leb t S.horizon b) (sym (outside (λ h. omega (arith, h.1)))))
        (λ (b : t ≤ S.horizon). rw (lt-ltb y 32 a, le-leb t S.horizon b, counted y t a b) (nested_count (λ k. board_of S (Z k) y t) (suc R.ranks) (boards_nested y t) k (omega arith)))
        (cases_lt S.horizon t))
        (λ (a : 32 ≤ y). rw (le-ltb y 32 a) (sym (outside (λ h. omega (arith, h.0)))))
        (cases_lt y 32)
      where
        outside : ((y < 32) × (t ≤ S.horizon) → ⊥) → board_of S (Z k) y t ≡ false
        outside far = ⊎_elim (λ e. absurd (far (live_inside S sound y t (and_parts (is_live S y t) _ e).0))) (λ e. e) (cases_Bool (board_of S (Z k) y t))

    marks_are : (k : ℕ) → k ≤ R.ranks → board_of S (Z k) ≡ marked S marks k
    marks_are k l = fun_ext (λ y. fun_ext (λ t. sym (mark_at k l y t)))

    same_figures : (k : ℕ) → k ≤ R.ranks → total k (figures_of S owed R f) ≡ total k (λ r. get_or figures r 0)
    same_figures k l = total_same k _ _ (λ r m. sym (figured r (omega arith)))

    pub right : Right S owed R figures marks
    right =
        let Q = quoted S sound owed R f Z flow serves cuts in
        record {
          best = record {
            plan = Q.best.plan;
            split = Q.best.split;
            feasible = Q.best.feasible;
            serves = Q.best.serves;
            reaches = λ r l. Q.best.reaches r l ∙ sym (figured r l);
            most = λ k l p q plan splits. omega (arith, Q.best.most k l p q plan splits, same_figures k l);
          };
          cuts = λ k l. subst (SmallestFull S owed R k (λ r. get_or figures r 0)) (marks_are k l)
              (let C = Q.cuts k l in record { cut = C.cut; full = omega (arith, C.full, same_figures k l); inside = C.inside });
          low = λ y t l m. omega (arith, counted y t l m, passed_le (λ k. board_of S (Z k) y t) (suc R.ranks));
        }

pub quote_right : QuoteRight
quote_right = right

-- for each number below n a set, as one function
choose : (P : ℕ → (ℕ → Bool) → Type 0) (n : ℕ) → ((k : ℕ) → k < n → (X : ℕ → Bool) × P k X) → (Z : ℕ → ℕ → Bool) × ((k : ℕ) → k < n → P k (Z k))
choose P zero some = (λ k v. false, λ k l. absurd (omega arith))
choose P (suc n) some =
    let rest = choose P n (λ k l. some k (omega arith)) in
    let last = some n (omega arith) in (
      λ k. cond (eqb k n) last.0 (rest.0 k),
      λ k l. ⊎_elim
          (λ e. subst (λ (j : ℕ). P j (cond (eqb j n) last.0 (rest.0 j))) (sym e) (rw (eq-eqb n n refl) last.1))
          (λ ne. rw (ne_eqb k n ne) (rest.1 k (omega arith))) (cases_eq k n),
    )

pub quote_exists : QuoteExists
quote_exists S sound owed R can =
    let N = day S owed (Some R) in
    let b = best_exists N (day_sound S sound owed (Some R)) (suc R.ranks) in
    let serves = servable_brought S sound owed (Some R) b.loads can b.flow (b.greatest 1 (omega arith)) in
    let Z = choose (λ k X. net.Cut N (suc k) X × Smallest N (suc k) b.loads X) (suc R.ranks) (λ k l.
    let c = greatest_bottleneck N (day_sound S sound owed (Some R)) (suc k) b.loads b.flow (b.greatest (suc k) (omega arith)) in (c.set, (c.cut, c.smallest))) in
    (b.loads, Z.0, quoted S sound owed R b.loads Z.0 b.flow serves (λ k l. Z.1 k (omega arith)))
