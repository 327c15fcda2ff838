-- What the steps of a run tell, at each of its moments.
use Rattle.std.proofs.Common.{◌≡◌, ℕ, List, [], ◌∷◌, ◌++◌, take, Some, None, Option, sym, refl, ap, ◌∙◌, subst, inl, inr}
use Rattle.refusals.specs.declared.Refusal.{Refusal}
use Rattle.refusals.specs.declared.Refusal.TheVariants.{NoPlan}
use Rattle.refusals.specs.Refusals.{Rule, rule, Decides}
use Rattle.refusals.specs.Runs.{Ran}
use Rattle.refusals.proofs.Decided.{decides_one, decides_next}
use Rattle.refusals.proofs.Runs.{moment, at_first, before, rest, always, each}
use Rattle.roads.specs.Rules.{capacity_rules}
use Rattle.slips.specs.declared.slip.Slip.{Slip}
use Rattle.timetable.specs.Quotes.{Right}
use Rattle.board.specs.Rules.{Short, holding_checks}
use Rattle.board.specs.States.{State, Stands, day, owed, fresh, capacity_set}
use Rattle.board.specs.States as board
use Rattle.board_runs.specs.Asks.{Ask, Reply, add_lane, name_depot, set_departure, hold, pick_up, spend, quote, held, done, quoted, refused}
use Rattle.board_runs.specs.Laws.{Makes, Exactly, Judged, Rightly, Kept}
use Rattle.board_runs.specs.Steps.{World, Moment, Step, Accepted, Answered, ranking_on, turned_away}

-- a reply is the refusal that was due, and no other
same_refusal : (a : Reply) (why how : Refusal) → a ≡ refused why → a ≡ refused how → how ≡ why
same_refusal a why how e f = let z : refused how ≡ refused why = sym f ∙ e in cc

not_refused : (a : Reply) (why : Refusal) → a ≡ done → a ≡ refused why → ⊥
not_refused a why e f = let z : done ≡ refused why = sym e ∙ f in cc

not_held : (a : Reply) (n : ℕ) (why : Refusal) → a ≡ held n → a ≡ refused why → ⊥
not_held a n why e f = let z : held n ≡ refused why = sym e ∙ f in cc

-- Where the last of the rules is that no plan is left, and no other holds, it alone decides.
module _ (rules : List Rule) (short : Type 0) (clear : Decides rules None) (o : Option Refusal) (d : Decides (rules ++ rule NoPlan short ∷ []) o) where
  short_refused : short → o ≡ Some NoPlan
  short_refused s = decides_one (rules ++ rule NoPlan short ∷ []) o (Some NoPlan) d (decides_next rules (rule NoPlan short ∷ []) (Some NoPlan) clear (inl (s, refl)))

  refused_short : (why : Refusal) → o ≡ Some why → (why ≡ NoPlan) × short
  refused_short why e = by_last rules clear (subst (λ (x : Option Refusal). Decides (rules ++ rule NoPlan short ∷ []) x) e d)
    where
      by_last : (xs : List Rule) → Decides xs None → Decides (xs ++ rule NoPlan short ∷ []) (Some why) → (why ≡ NoPlan) × short
      by_last [] c (inl w) = ((cc), w.0)
      by_last [] c (inr w) = cc
      by_last (x ∷ xs) (inl c) w = cc
      by_last (x ∷ xs) (inr c) (inl w) = absurd (c.0 w.0)
      by_last (x ∷ xs) (inr c) (inr w) = by_last xs c.1 w.1

exactly : (rules : List Rule) (short : Type 0) (o : Option Refusal) (a : Reply) → Decides (rules ++ rule NoPlan short ∷ []) o
    → ((why : Refusal) → o ≡ Some why → a ≡ refused why) → (o ≡ None → (why : Refusal) → a ≡ refused why → ⊥) → Decides rules None → Exactly a short
exactly rules short (Some why) a d turned accepted clear =
    let last = refused_short rules short clear (Some why) d why refl in
    record {
      because = λ e. last.1;
      always = λ s. turned NoPlan (short_refused rules short clear (Some why) d s);
      nothing_else = λ how e. same_refusal a why how (turned why refl) e ∙ last.0;
    }
exactly rules short None a d turned accepted clear = record {
  because = λ e. absurd (accepted refl NoPlan e);
  always = λ s. let z = short_refused rules short clear None d s in cc;
  nothing_else = λ how e. absurd (accepted refl how e);
}

module _ (m m' : Moment) (c : Ask) (a : Reply) where
  turned_so : (o : Option Refusal) → Answered m.world c o a → (why : Refusal) → o ≡ Some why → a ≡ turned_away c why
  turned_so (Some x) e why f = e ∙ ap (turned_away c) (let z : x ≡ why = cc in z)
  turned_so None e why f = cc

accepted_so : (m : Moment) (c : Ask) (a : Reply) (o : Option Refusal) → Answered m.world c o a → o ≡ None → Accepted m.world c a
accepted_so m c a None e f = e
accepted_so m c a (Some x) e f = cc

pub step_judged : (m m' : Moment) (c : Ask) (a : Reply) → Step m c a m' → Judged m.world.board c a
step_judged m m' (add_lane lane capacity) a s = tt
step_judged m m' (name_depot yard) a s = tt
step_judged m m' (set_departure lane period capacity) a s =
    exactly (capacity_rules m.world.board.grid lane period capacity) (Short (capacity_set m.world.board lane period capacity)) s.outcome a s.decided
    (turned_so m m' (set_departure lane period capacity) a s.outcome s.answered)
    (λ e why f. not_refused a why (accepted_so m (set_departure lane period capacity) a s.outcome s.answered e) f)
step_judged m m' (hold yard pallets) a s =
    exactly (holding_checks m.world.board yard pallets) (Short (board.held m.world.board yard pallets)) s.outcome a s.decided
    (turned_so m m' (hold yard pallets) a s.outcome s.answered)
    (λ e why f. not_held a _ why (accepted_so m (hold yard pallets) a s.outcome s.answered e) f)
step_judged m m' (pick_up number) a s = tt
step_judged m m' (spend place act) a s = tt
step_judged m m' (quote ranking figures marks) a s = tt

rightly_told : (m : Moment) (ranking : _) (figures marks : List ℕ) (a : Reply) (o : Option Refusal) → Answered m.world (quote ranking figures marks) o a
    → (figures' marks' : List ℕ) → a ≡ quoted figures' marks' → Right (day m.world.board) (owed m.world.board) (ranking_on m.world.board ranking) figures' marks'
rightly_told m ranking figures marks a None (fs, ms, e, right, x, y) figures' marks' f =
    let g : fs ≡ figures' = told_figures (sym e ∙ f) in
    let h : ms ≡ marks' = told_marks (sym e ∙ f) in
    subst (λ (ls : List ℕ). Right (day m.world.board) (owed m.world.board) (ranking_on m.world.board ranking) figures' ls) h
    (subst (λ (ls : List ℕ). Right (day m.world.board) (owed m.world.board) (ranking_on m.world.board ranking) ls ms) g right)
  where
    told_figures : {p q r s : List ℕ} → quoted p q ≡ quoted r s → p ≡ r
    told_figures z = cc

    told_marks : {p q r s : List ℕ} → quoted p q ≡ quoted r s → q ≡ s
    told_marks z = cc
rightly_told m ranking figures marks a (Some why) e figures' marks' f = let z = sym e ∙ f in cc

pub step_rightly : (m m' : Moment) (c : Ask) (a : Reply) → Step m c a m' → Rightly m.world.board c a
step_rightly m m' (add_lane lane capacity) a s = tt
step_rightly m m' (name_depot yard) a s = tt
step_rightly m m' (set_departure lane period capacity) a s = tt
step_rightly m m' (hold yard pallets) a s = tt
step_rightly m m' (pick_up number) a s = tt
step_rightly m m' (spend place act) a s = tt
step_rightly m m' (quote ranking figures marks) a s = rightly_told m ranking figures marks a s.outcome s.answered

-- the calls of a run make its worlds
pub run_makes : {m u : Moment} {cs : List Ask} {said : List Reply} → Ran Step m cs said u → Makes m.world cs u.world
run_makes Ran.none = Makes.nothing
run_makes (Ran.more {s} {t} {u} {c} {a} {cs} x p) = Makes.then x.outcome x.decided (subst (λ (w : World). Makes w cs u.world) x.leaves (run_makes p))

pub kept : (horizon origin : ℕ) (start : List Slip) (cs : List Ask) (said : List Reply) (m u : Moment) → Ran Step m cs said u
    → m.world ≡ record { board = fresh horizon origin; hand = start } → Stands m.world.board m.plan → Kept horizon origin start cs said u
kept horizon origin start cs said m u p opened stands =
    let at = moment Step p in
    let first : at 0 ≡ m = at_first Step p in
    record {
      at = at;
      opened = ap (λ (n : Moment). n.world) first ∙ opened;
      before = λ k. subst (λ (n : Moment). Ran Step n (take k cs) (take k said) (at k)) (sym first) (before Step p k);
      rest = rest Step p;
      made = λ k. subst (λ (n : Moment). Makes n.world (take k cs) (at k).world) (sym first) (run_makes (before Step p k));
      stands = always Step (λ n. Stands n.world.board n.plan) (λ s t c a x. x.stands) p stands;
      judged = each Step (λ n c a. Judged n.world.board c a) (λ s t c a x. step_judged s t c a x) p;
      quotes = each Step (λ n c a. Rightly n.world.board c a) (λ s t c a x. step_rightly s t c a x) p;
    }
