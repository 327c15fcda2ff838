-- A right quote says nothing of figures past those of its ranks.
use Rattle.std.proofs.Common.{◌≡◌, ℕ, ◌+◌, ◌<◌, ◌≤◌, List, take, get_or, sym, ap, ◌∙◌, subst, arith}
use Rattle.std.proofs.lemmas.List.{get_or-take}
use Rattle.flow.specs.Network.{total}
use Rattle.flow.proofs.Sums.{total_same}
use Rattle.ranking.specs.Ranking.{Ranking}
use Rattle.timetable.specs.Plans.{Timetable}
use Rattle.timetable.specs.Quotes.{Right, ahead, all_owed}

module _ (S : Timetable) (owed : ℕ → ℕ) (R : Ranking) (figures marks : List ℕ) (quote : Right S owed R figures marks) (n : ℕ) (all : n ≡ R.ranks) where
  same : (r : ℕ) → r < R.ranks → get_or (take n figures) r 0 ≡ get_or figures r 0
  same r l = get_or-take n figures r 0 (omega arith)

  sums : (k : ℕ) → k ≤ R.ranks → total k (λ r. get_or (take n figures) r 0) ≡ total k (λ r. get_or figures r 0)
  sums k l = total_same k _ _ (λ r m. same r (omega arith))

  pub right_front : Right S owed R (take n figures) marks
  right_front =
      let b = quote.best in
      record {
        best = record {
          plan = b.plan;
          split = b.split;
          feasible = b.feasible;
          serves = b.serves;
          reaches = λ r l. b.reaches r l ∙ sym (same r l);
          most = λ k l p q f s. subst (λ m. ahead S R p q k ≤ m) (sym (sums k l)) (b.most k l p q f s);
        };
        cuts =
            λ k l.
            let c = quote.cuts k l in
            record { cut = c.cut; full = c.full ∙ ap (λ m. all_owed S owed + m) (sym (sums k l)); inside = c.inside };
        low = quote.low;
      }
