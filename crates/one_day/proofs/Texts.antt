-- The records of a file have one answer each.
use Rattle.std.proofs.Common.{◌≡◌, List, ◌∷◌, map, sym, refl, subst}
use Rattle.refusals.specs.Runs.{Ran}
use Rattle.dayfile.specs.declared.fault.Position.{Position}
use Rattle.dayfile.specs.Records.{Rec}
use Rattle.dayfile.proofs.One.{one_reading_lem}
use Rattle.session.specs.Days.{Day, beginning}
use Rattle.session.specs.Performing.{Turns}
use Rattle.lines.specs.Listing.{Got, TurnsAndTells}
use Rattle.one_day.specs.OneDay.{OneDay}
use Rattle.one_day.proofs.Answers.{one_answer}

ran_one : {d e : Day} {xs : List (Position × Rec)} {gs : List Got} → Ran TurnsAndTells d xs gs e
    → (c u : Day) (hs : List Got) → c ≡ d → Ran TurnsAndTells c xs hs u → map (λ g. g.0) gs ≡ map (λ g. g.0) hs
ran_one Ran.none c u hs same Ran.none = refl
ran_one {d} (Ran.more {t = m} {c = x} {a = g} t p) c u hs same (Ran.more {t = n} {a = h} {said = rest} o w) =
    let one = one_answer d m n x.1 x.0 g.0 h.0 t.0 (subst (λ (z : Day). Turns z x h.0 n) same o.0) in
    λ i. one.0 i ∷ ran_one p n u rest (sym one.1) w i

pub one_day : OneDay
one_day file a b x y =
    let (records, fault) = one_reading_lem file 1 0 x.records y.records x.fault y.fault x.reads y.reads in
    record {
      records = records;
      answers = ran_one x.runs beginning y.end y.answers refl (subst (λ (xs : List (Position × Rec)). Ran TurnsAndTells beginning xs y.answers y.end) (sym records) y.runs);
      fault = fault;
    }
