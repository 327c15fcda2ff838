-- The marks of places count the cuts that hold them, so that figures and marks are a right quote.
use Rattle.std.proofs.Common.{◌≡◌, ℕ, zero, suc, ◌+◌, ◌-◌, ◌*◌, ◌<◌, ◌≤◌, Bool, true, false, cond, ◌&&◌, ◌||◌, eqb, ltb, List, get_or, take, Some, refl, sym, ◌∙◌, ⊎_elim, arith}
use Rattle.std.proofs.lemmas.Bool.{cases_lt, lt-ltb, le-ltb}
use Rattle.std.proofs.lemmas.List.{get_or-take}
use Rattle.flow.specs.Network.{total}
use Rattle.flow.proofs.Sums.{total_zero}
use Rattle.search.specs.Served.{Served, above}
use Rattle.timetable.specs.Plans.{Timetable, Sound}
use Rattle.timetable.specs.Live.{is_live}
use Rattle.timetable.specs.Quotes.{Ranking, Right, all_owed}
use Rattle.day_network.specs.DayNetwork.{day}
use Rattle.day_network.specs.DayTheory.{SmallestCuts, mark_of}
use Rattle.day_network.proofs.FlowPlan.{day_sound}
use Rattle.day_network.proofs.Right.{quote_right}
use Rattle.planning.specs.Marks.{mark_at}
use Rattle.planning.proofs.Brought.{serves}
use Rattle.planning.proofs.Cuts.{smallest}

-- how many of the numbers from 1 to n are below m
abbrev lower : ℕ → ℕ → ℕ
lower n m = total n (λ k. cond (ltb (suc k) m) 1 0)

lower_all : (n m : ℕ) → n < m → lower n m ≡ n
lower_all zero m l = refl
lower_all (suc n) m l = rw (lt-ltb (suc n) m l) (omega (arith, lower_all n m (omega arith)))

lower_some : (n m : ℕ) → m ≤ suc n → lower n m ≡ m - 1
lower_some zero m l = omega arith
lower_some (suc n) m l =
    ⊎_elim
    (λ (a : suc n < m). rw (lt-ltb (suc n) m a) (omega (arith, lower_all n m (omega arith))))
    (λ (a : m ≤ suc n). rw (le-ltb (suc n) m a) (omega (arith, lower_some n m a)))
    (cases_lt (suc n) m)

ones : (n : ℕ) → total n (λ k. 1) ≡ n
ones zero = refl
ones (suc n) = omega (arith, ones n)

-- for a place that is live or not, at the origin or not, whose node has the mark m
held : (live origin : Bool) (n m : ℕ) → m ≤ suc n → cond live (cond origin n (m - 1)) 0 ≡ total n (λ k. cond (live && (origin || ltb (suc k) m)) 1 0)
held false origin n m l = refl ∙ (let z : total n (λ k. 0) ≡ 0 = total_zero n (λ k. 0) (λ k l. refl) in omega arith)
held true true n m l = omega (arith, ones n)
held true false n m l = omega (arith, lower_some n m l)

module _ (S : Timetable) (sound : Sound S) (owed : ℕ → ℕ) (Q : Ranking) (loads marks figures : List ℕ) (served : Served (day S owed (Some Q)) (suc Q.ranks) loads marks (take (suc Q.ranks) figures)) (all : get_or figures 0 0 ≡ all_owed S owed) where
  -- the cut for each k
  abbrev cut : ℕ → ℕ → Bool
  cut k = above marks (suc k)

  cuts : SmallestCuts S owed Q loads cut
  cuts k l =
      let narrow = served.cuts (suc k) (omega arith) in
      (narrow.cut, smallest (day S owed (Some Q)) (day_sound S sound owed (Some Q)) (suc k) loads (cut k) served.flow narrow)

  counts : (y t : ℕ) → mark_at S Q.ranks marks y t ≡ mark_of S Q cut y t
  counts y t = held (is_live S y t) (eqb y S.origin) (suc Q.ranks) (get_or marks (y * 48 + t) 0) (omega (arith, served.low (y * 48 + t)))

  pub right : (fs ms : List ℕ) → ((r : ℕ) → r < Q.ranks → get_or fs r 0 ≡ get_or figures (suc r) 0) → ((y t : ℕ) → y < 32 → t ≤ S.horizon → get_or ms (y * suc S.horizon + t) 0 ≡ mark_at S Q.ranks marks y t) → Right S owed Q fs ms
  right fs ms given told =
      let first = get_or-take (suc Q.ranks) figures 0 0 (omega arith) in
      quote_right S sound owed Q loads cut served.flow (serves S sound owed (Some Q) (suc Q.ranks) loads marks (take (suc Q.ranks) figures) served (omega arith) (first ∙ all)) cuts fs ms
      (λ r l. given r l ∙ sym (get_or-take (suc Q.ranks) figures (suc r) 0 (omega arith)) ∙ served.granted (suc r) (omega arith))
      (λ y t l m. told y t l m ∙ counts y t)
