-- A plan with the same loads is as feasible, and delivers the same.
use Rattle.std.proofs.Common.{◌≡◌, ℕ, suc, ◌-◌, ◌<◌, ◌≤◌, ◌&&◌, eqb, leb, length, ap₂, ◌∙◌, sym, arith}
use Rattle.std.proofs.lemmas.Bool.{leb-true}
use Rattle.flow.proofs.Sums.{total_same}
use Rattle.timetable.specs.Plans.{Timetable, Sound, lane, depot, departs, arriving, leaving, delivered, Feasible, Delivers}
use Rattle.timetable.proofs.Sums.{cond_same}

module _ (S : Timetable) (sound : Sound S) (p q : ℕ → ℕ → ℕ) (same : (l t : ℕ) → l < length S.lanes → t < 48 → q l t ≡ p l t) where
  arriving_same : (y u : ℕ) → u ≤ S.horizon → arriving S q y u ≡ arriving S p y u
  arriving_same y u l =
      total_same (length S.lanes) _ _ (λ k m.
      cond_same (eqb (lane S k).to y && leb (lane S k).transit u) _ _ (λ e. same k (u - (lane S k).transit) m (omega (arith, sound.periods.1))))

  leaving_same : (y u : ℕ) → u ≤ S.horizon → leaving S q y u ≡ leaving S p y u
  leaving_same y u l =
      total_same (length S.lanes) _ _ (λ k m. cond_same (eqb (lane S k).from y && departs S k u) _ _ (λ e. same k u m (omega (arith, sound.periods.1))))

  pub feasible_same : Feasible S p → Feasible S q
  feasible_same h =
      record {
        fits = λ l t m e. omega (arith, h.fits l t m e, same l t m (omega (arith, leb-true _ _ e, sound.periods.1)));
        passes = λ y u l ne e. arriving_same y u l ∙ h.passes y u l ne e ∙ sym (leaving_same y u l);
        keeps = λ y u l e. omega (arith, arriving_same y u l, leaving_same y u l, h.keeps y u l e);
      }

  pub delivers_same : (owed : ℕ → ℕ) → Delivers S owed p → Delivers S owed q
  delivers_same owed h d l =
      total_same (suc S.horizon) (delivered S q d) (delivered S p d) (λ u m.
      ap₂ ◌-◌ (arriving_same (depot S d) u (omega arith)) (leaving_same (depot S d) u (omega arith)))
      ∙ h d l
