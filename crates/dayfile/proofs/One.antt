-- A file has one reading.
use Rattle.std.proofs.Common.{◌≡◌, ◌+◌, ◌∷◌, refl, subst}
use Rattle.dayfile.specs.Faults.{place}
use Rattle.dayfile.specs.Reading.{Reads, ends, faulty, misnamed, goes, OneReading}

pub one_reading_lem : OneReading
one_reading_lem file n p xs ys f g (ends d) (ends e) = (refl, refl)
one_reading_lem file n p xs ys f g (ends d) (faulty h e) = absurd (cc)
one_reading_lem file n p xs ys f g (ends d) (misnamed x q e w) = absurd (cc)
one_reading_lem file n p xs ys f g (ends d) (goes x q e w r) = absurd (cc)
one_reading_lem file n p xs ys f g (faulty h d) (ends e) = absurd (cc)
one_reading_lem file n p xs ys f g (faulty h d) (faulty i e) = (refl, cc)
one_reading_lem file n p xs ys f g (faulty h d) (misnamed x q e w) = absurd (cc)
one_reading_lem file n p xs ys f g (faulty h d) (goes x q e w r) = absurd (cc)
one_reading_lem file n p xs ys f g (misnamed x q d v) (ends e) = absurd (cc)
one_reading_lem file n p xs ys f g (misnamed x q d v) (faulty h e) = absurd (cc)
one_reading_lem file n p xs ys f g (misnamed x q d v) (misnamed y r e w) = (refl, refl)
one_reading_lem file n p xs ys f g (misnamed x q d v) (goes y r e w s) = absurd (cc)
one_reading_lem file n p xs ys f g (goes x q d v s) (ends e) = absurd (cc)
one_reading_lem file n p xs ys f g (goes x q d v s) (faulty h e) = absurd (cc)
one_reading_lem file n p xs ys f g (goes x q d v s) (misnamed y r e w) = absurd (cc)
one_reading_lem file n p xs ys f g (goes {xs = us} x q d v s) (goes {xs = vs} y r e w t) =
    let first : x ≡ y = cc in
    let next : r ≡ q = cc in
    let rest = one_reading_lem file (n + 1) q us vs f g s (subst (λ m. Reads file (n + 1) m vs g) next t) in
    ((λ i. (place n p, first i) ∷ rest.0 i), rest.1)
