-- Figures are bounded by each other, and smallest cuts lie inside each other.
use Rattle.std.proofs.Common.{◌≡◌, ℕ, suc, ◌+◌, ◌*◌, ◌<◌, ◌≤◌, Bool, true, false, ltb, leb, List, get_or, sym, refl, ◌∙◌, ⊎_elim, arith}
use Rattle.std.proofs.lemmas.Bool.{both_ways, cases_lt, and_parts, and_from, lt-ltb, le-leb, ltb-true}
use Rattle.flow.specs.Network.{total}
use Rattle.timetable.specs.Plans.{Timetable}
use Rattle.timetable.specs.Live.{is_live}
use Rattle.timetable.specs.Quotes.{Ranking, further, ahead, marked, Best, Right}
use Rattle.timetable.specs.Unique.{FiguresUnique, Agree, RightUnique, MarksNested, MarksLive}
use Rattle.flow.proofs.Sums.{total_same}
use Rattle.timetable.proofs.Rows.{ahead_is}

alike : (a b : Bool) → (a ≡ true → b ≡ true) → (b ≡ true → a ≡ true) → a ≡ b
alike true b f g = sym (f refl)
alike false true f g = g refl
alike false false f g = refl

module _ (S : Timetable) (owed : ℕ → ℕ) (R : Ranking) where
  reaches_all : (f : ℕ → ℕ) (b : Best S owed R f) (k : ℕ) → k ≤ R.ranks → ahead S R b.plan b.split k ≡ total k f
  reaches_all f b k l = omega (arith, ahead_is S R b.plan b.split k, total_same k (further S R b.plan b.split) f (λ r m. b.reaches r (omega arith)))

  no_more : (f g : ℕ → ℕ) → Best S owed R f → Best S owed R g → (k : ℕ) → k ≤ R.ranks → total k f ≤ total k g
  no_more f g b c k l = omega (arith, reaches_all f b k l, c.most k l b.plan b.split b.feasible b.serves)

  as_many : (f g : ℕ → ℕ) → Best S owed R f → Best S owed R g → (k : ℕ) → k ≤ R.ranks → total k f ≡ total k g
  as_many f g b c k l = omega (arith, no_more f g b c k l, no_more g f c b k l)

pub figures_unique : FiguresUnique
figures_unique S owed R f g b c r l = omega (arith, as_many S owed R f g b c r (omega arith), as_many S owed R f g b c (suc r) (omega arith))

module _ (S : Timetable) (marks : List ℕ) (k y t : ℕ) where
  -- a place of the board is marked for just the k below its mark
  mark_above : marked S marks k y t ≡ true → k < get_or marks (y * suc S.horizon + t) 0
  mark_above e = let b = and_parts (ltb y 32) _ e in ltb-true _ _ (and_parts (leb t S.horizon) _ b.1).1

  above_mark : y < 32 → t ≤ S.horizon → k < get_or marks (y * suc S.horizon + t) 0 → marked S marks k y t ≡ true
  above_mark l m h = and_from _ _ (lt-ltb _ _ l) (and_from _ _ (le-leb _ _ m) (lt-ltb _ _ h))

-- a mark up to n + 1 is no more than another that is above the same k up to n
mark_le : (S : Timetable) (marks signs : List ℕ) (n y t : ℕ) → y < 32 → t ≤ S.horizon → ((k : ℕ) → k ≤ n → marked S marks k y t ≡ marked S signs k y t)
    → get_or marks (y * suc S.horizon + t) 0 ≤ suc n → get_or marks (y * suc S.horizon + t) 0 ≤ get_or signs (y * suc S.horizon + t) 0
mark_le S marks signs n y t l m same low =
    let k = get_or signs (y * suc S.horizon + t) 0 in
    ⊎_elim
    (λ h. absurd (omega (arith, mark_above S signs k y t (sym (same k (omega arith)) ∙ above_mark S marks k y t l m h))))
    (λ h. h)
    (cases_lt k (get_or marks (y * suc S.horizon + t) 0))

module _ (S : Timetable) (owed : ℕ → ℕ) (R : Ranking) (figures marks others signs : List ℕ) (a : Right S owed R figures marks) (b : Right S owed R others signs) where
  same_places : (k : ℕ) → k ≤ R.ranks → (y t : ℕ) → marked S marks k y t ≡ marked S signs k y t
  same_places k l y t =
      let same = as_many S owed R (λ r. get_or figures r 0) (λ r. get_or others r 0) a.best b.best k l in
      let x = a.cuts k l in
      let z = b.cuts k l in
      alike _ _ (x.inside (marked S signs k) z.cut (omega (arith, same, x.full, z.full)) y t) (z.inside (marked S marks k) x.cut (omega (arith, same, x.full, z.full)) y t)

  agree : Agree S R figures marks others signs
  agree =
      record {
        shares = figures_unique S owed R (λ r. get_or figures r 0) (λ r. get_or others r 0) a.best b.best;
        places = same_places;
        marks = λ y t l m. omega (arith, mark_le S marks signs R.ranks y t l m (λ k n. same_places k n y t) (omega (arith, a.low y t l m)), mark_le S signs marks R.ranks y t l m (λ k n. sym (same_places k n y t)) (omega (arith, b.low y t l m)));
      }

pub right_unique : RightUnique
right_unique = agree

pub marks_nested : MarksNested
marks_nested S marks j k y t l e =
    let a = and_parts (ltb y 32) _ e in
    let b = and_parts (leb t S.horizon) _ a.1 in
    and_from _ _ a.0 (and_from _ _ b.0 (lt-ltb _ _ (omega (arith, ltb-true _ _ b.1))))

pub marks_live : MarksLive
marks_live S owed R figures marks a y t l m dead =
    ⊎_elim
    (λ h. absurd (both_ways (is_live S y t) dead ((a.cuts 0 (omega arith)).cut.live y t (above_mark S marks 0 y t l m h))))
    (λ h. omega arith)
    (cases_lt 0 (get_or marks (y * suc S.horizon + t) 0))
