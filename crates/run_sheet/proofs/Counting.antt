-- Fewer departures have a load once a run is off.
use Rattle.std.proofs.Common.{◌≡◌, ℕ, zero, suc, ◌<◌, ◌≤◌, cond, ltb, List, [], ◌∷◌, refl, subst, inl, inr, ⊎_elim, arith}
use Rattle.std.proofs.lemmas.Bool.{cases_eq, cases_lt, lt-ltb, le-ltb}
use Rattle.flow.specs.Network.{total}
use Rattle.board.specs.States.{State}
use Rattle.run_sheet.specs.declared.leg.Leg.{Leg}
use Rattle.run_sheet.specs.Runs.{carried}
use Rattle.run_sheet.specs.Finding.{Least}
use Rattle.run_sheet.specs.Taking.{Ready, with_pallets}
use Rattle.run_sheet.specs.Calls.{loaded}
use Rattle.run_sheet.proofs.Lowering.{one_here}

total_le : (n : ℕ) (f g : ℕ → ℕ) → ((v : ℕ) → v < n → f v ≤ g v) → total n f ≤ total n g
total_le zero f g le = omega arith
total_le (suc n) f g le = omega (arith, total_le n f g (λ v l. le v (omega arith)), le n (omega arith))

total_less : (n : ℕ) (f g : ℕ → ℕ) → ((v : ℕ) → v < n → f v ≤ g v) → (v : ℕ) → v < n → f v < g v → total n f < total n g
total_less zero f g le v l less = absurd (omega arith)
total_less (suc n) f g le v l less =
    ⊎_elim
    (λ e. let here : f n < g n = subst (λ (w : ℕ). f w < g w) e less in omega (arith, here, total_le n f g (λ w k. le w (omega arith))))
    (λ ne. omega (arith, total_less n f g (λ w k. le w (omega arith)) v (omega arith) less, le n (omega arith)))
    (cases_eq v n)

-- a load counts for 1
abbrev counts : ℕ → ℕ
counts n = cond (ltb 0 n) 1 0

counts_le : (m n : ℕ) → m ≤ n → counts m ≤ counts n
counts_le m n le =
    ⊎_elim
    (λ some. rw (lt-ltb 0 m some, lt-ltb 0 n (omega arith)) (omega arith))
    (λ none. rw (le-ltb 0 m none) (omega arith))
    (cases_lt 0 m)

pub loaded_le : (s : State) (p q : ℕ → ℕ → ℕ) → ((l t : ℕ) → l < 96 → t ≤ s.grid.horizon → q l t ≤ p l t) → loaded s q ≤ loaded s p
loaded_le s p q le =
    total_le 96 (λ k. total (suc s.grid.horizon) (λ u. counts (q k u))) (λ k. total (suc s.grid.horizon) (λ u. counts (p k u)))
    (λ k a. total_le (suc s.grid.horizon) (λ u. counts (q k u)) (λ u. counts (p k u)) (λ u b. counts_le (q k u) (p k u) (le k u a (omega arith))))

counts_less : (m n : ℕ) → m ≡ 0 → 0 < n → counts m < counts n
counts_less m n e some = rw (e, lt-ltb 0 n some) (omega arith)

pub fewer_loaded : (s : State) (p q : ℕ → ℕ → ℕ) → ((l t : ℕ) → l < 96 → t ≤ s.grid.horizon → q l t ≤ p l t) → (l t : ℕ) → l < 96 → t ≤ s.grid.horizon → 0 < p l t → q l t ≡ 0 → loaded s q < loaded s p
fewer_loaded s p q le l t lt in' some none =
    total_less 96 (λ k. total (suc s.grid.horizon) (λ u. counts (q k u))) (λ k. total (suc s.grid.horizon) (λ u. counts (p k u)))
    (λ k a. total_le (suc s.grid.horizon) (λ u. counts (q k u)) (λ u. counts (p k u)) (λ u b. counts_le (q k u) (p k u) (le k u a (omega arith))))
    l lt
    (total_less (suc s.grid.horizon) (λ u. counts (q l u)) (λ u. counts (p l u)) (λ u b. counts_le (q l u) (p l u) (le l u lt (omega arith))) t (omega arith) (counts_less (q l t) (p l t) none some))

-- the departure whose load is all taken
pub record Emptied (s : State) (p : ℕ → ℕ → ℕ) (x : ℕ) (legs : List Leg) : Type 0 where
  pub lane : ℕ
  pub period : ℕ
  pub few : lane < 96
  pub within : period ≤ s.grid.horizon
  pub had : p lane period ≡ x
  pub taken : x ≤ carried (with_pallets x legs) lane period

pub emptied : (s : State) (p : ℕ → ℕ → ℕ) (x t : ℕ) (legs : List Leg) → Ready s p x t legs → Least p x legs → Emptied s p x legs
emptied s p x t [] r l = absurd l
emptied s p x t (leg ∷ legs) (late, early, few, some, rest) (inl e) =
    record { lane = leg.lane; period = leg.period; few = few; within = early; had = e; taken = omega (arith, one_here (record { lane = leg.lane; period = leg.period; pallets = x }) leg.lane leg.period refl refl) }
emptied s p x t (leg ∷ legs) (late, early, few, some, rest) (inr l) =
    let e = emptied s p x (suc leg.period) legs rest l in
    record { lane = e.lane; period = e.period; few = e.few; within = e.within; had = e.had; taken = omega (arith, e.taken) }
