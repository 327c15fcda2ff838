-- One round: the times of ways of one more lane.
use Rattle.std.proofs.Common.{◌≡◌, ℕ, zero, suc, ◌+◌, ◌-◌, ◌<◌, ◌≤◌, Bool, ◌&&◌, ◌||◌, List, length, refl, ap, sym, ◌∙◌, arith}
use Rattle.std.specs.Prelude.{◌==◌, nat_le, Option}
use Rattle.timetable.specs.declared.Lane.{Lane}
use Rattle.timetable.specs.Plans.{Timetable, Sound, some_below, lane}
use Rattle.timetable.specs.Live.{comes, goes}
use Rattle.live_times.specs.Times.{by, until, time_of, brings, takes, ComeFrom, GoUntil}

some_same : (n : ℕ) (p q : ℕ → Bool) → ((v : ℕ) → v < n → p v ≡ q v) → some_below n p ≡ some_below n q
some_same zero p q e = refl
some_same (suc n) p q e = rw (some_same n p q (λ v l. e v (omega arith))) (ap (λ u. some_below n q || u) (e n (omega arith)))

or_same : (a b x y : Bool) → a ≡ b → x ≡ y → (a || x) ≡ (b || y)
or_same a b x y e h = rw (e, h) refl

pub come_more : (S : Timetable) → Sound S → (n : ℕ) (lanes : List Lane) (start times next : List (Option ℕ)) → S.lanes ≡ lanes
    → ComeFrom S 0 start → ComeFrom S n times
    → ((y t : ℕ) → y < 32 → t ≤ S.horizon → by (time_of next y) t ≡ (by (time_of start y) t || some_below (length lanes) (brings lanes times y t)))
    → ComeFrom S (suc n) next
come_more S sound n lanes start times next e first known one y t in_range early =
    or_same (comes S 0 y t) _ _ _ (first y t in_range early)
    (some_same (length S.lanes) _ (brings S.lanes times y t)
    (λ l below. ap (λ u. (lane S l).to == y && (nat_le (lane S l).transit t && u))
    (known (lane S l).from (t - (lane S l).transit) (sound.ends l below).0 (omega (arith, early)))))
    ∙ sym (rw (sym e) at (one y t in_range early))

pub go_more : (S : Timetable) → Sound S → (n : ℕ) (lanes : List Lane) (start times next : List (Option ℕ)) → S.lanes ≡ lanes
    → GoUntil S 0 start → GoUntil S n times
    → ((y t : ℕ) → y < 32 → until (time_of next y) t ≡ (until (time_of start y) t || some_below (length lanes) (takes lanes times y t)))
    → GoUntil S (suc n) next
go_more S sound n lanes start times next e first known one y t in_range =
    or_same (goes S 0 y t) _ _ _ (first y t in_range)
    (some_same (length S.lanes) _ (takes S.lanes times y t)
    (λ l below. ap (λ u. (lane S l).from == y && u) (known (lane S l).to (t + (lane S l).transit) (sound.ends l below).1)))
    ∙ sym (rw (sym e) at (one y t in_range))
