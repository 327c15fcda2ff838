-- What the times of a timetable tell of its live places.
use Rattle.std.proofs.Common.{◌≡◌, ℕ, ◌<◌, ◌≤◌, Bool, true, false, ◌&&◌, refl, ap, sym, ◌∙◌, ⊎_elim, arith}
use Rattle.std.specs.Prelude.{Option, None}
use Rattle.std.proofs.lemmas.Bool.{cases_lt, cases_Bool}
use Rattle.timetable.specs.Plans.{Timetable, Sound}
use Rattle.timetable.specs.Live.{Way, there, on, comes, goes, is_live}
use Rattle.timetable.proofs.Live.{goes_way, test_says_live}
use Rattle.live_times.specs.declared.live.LiveTimes.{LiveTimes}
use Rattle.live_times.specs.Times.{by, until, time_of}
use Rattle.live_times.specs.Told.{TimesOf}

and_false : (a : Bool) → false ≡ (a && false)
and_false true = refl
and_false false = refl

way_yard : (S : Timetable) → Sound S → {i j n : ℕ} → Way S i j n → i < 32 → j < 32
way_yard S sound there start = start
way_yard S sound (on l below w) start = way_yard S sound w (sound.ends l below).1

-- no yard past the last is live, and no pallet goes to a depot from a period past the horizon
not_live : (S : Timetable) → Sound S → (y t : ℕ) → 32 ≤ y → is_live S y t ≡ false
not_live S sound y t past =
    ⊎_elim (λ e. absurd (omega (arith, way_yard S sound ((test_says_live S sound y t).0 e).come.1.way sound.origin, past))) (λ e. e) (cases_Bool (is_live S y t))

not_go : (S : Timetable) (n y t : ℕ) → S.horizon < t → goes S n y t ≡ false
not_go S n y t late = ⊎_elim (λ e. let (d, m, one, w, le) = goes_way S n y t e in absurd (omega (arith, le, late))) (λ e. e) (cases_Bool (goes S n y t))

pub told_live : (S : Timetable) (times : LiveTimes) → TimesOf S times → (y t : ℕ) (a b : Option ℕ) → a ≡ time_of times.come y → (32 ≤ y → a ≡ None)
    → b ≡ time_of times.leave y → (by a t && until b t) ≡ is_live S y t
told_live S times told y t a b ea past eb =
    ⊎_elim
    (λ here. let u : until b t ≡ goes S S.horizon y t = ap (λ v. until v t) eb ∙ sym (told.leave y t here) in
    ⊎_elim
    (λ late. rw (u, not_go S S.horizon y t late) (sym (and_false (by a t)) ∙ and_false (comes S S.horizon y t)))
    (λ early. ap (λ v. by v t && until b t) ea ∙ rw (u, told.come y t here early) refl)
    (cases_lt S.horizon t))
    (λ far. ap (λ v. by v t && until b t) (past far) ∙ sym (not_live S told.sound y t far))
    (cases_lt y 32)
