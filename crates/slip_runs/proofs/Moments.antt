-- The moments of a run: the worlds between its requests.
use Rattle.std.proofs.Common.{◌≡◌, ℕ, zero, suc, ◌+◌, ◌<◌, ◌≤◌, List, [], ◌∷◌, ◌++◌, length, get_or, take, drop, sym, refl, subst, le_of_suc-le-suc, not-suc-le-zero}
use Rattle.std.proofs.lemmas.List.{take_more, take_all}
use Rattle.slips.specs.declared.slip.Slip.{Slip}
use Rattle.slips.specs.declared.table.Entry.{Entry}
use Rattle.slip_runs.specs.declared.request.Request.{Request}
use Rattle.slip_runs.specs.declared.request.Answer.{Answer}
use Rattle.slip_runs.specs.Deeds.{deed, deeds}
use Rattle.slip_runs.specs.Laws.{Onward, Kept}
use Rattle.refusals.specs.Runs.{Ran}
use Rattle.refusals.proofs.Runs.{ran_push, moment, before, rest}
use Rattle.slip_runs.specs.Rules.{World, Step, fresh}
use Rattle.slip_runs.proofs.Changes.{onward_same}
use Rattle.slip_runs.proofs.Only.{ran_one}
use Rattle.slip_runs.proofs.Steps.{Between, still, joined, step_between, lawful}

-- no request yet
pub ran_none : (w : World) (rs : List Request) (said : List Answer) → said ≡ [] → Ran Step w (take 0 rs) said w
ran_none w rs said e = subst (λ (l : List Answer). Ran Step w [] l w) (sym e) Ran.none

-- the next request of a list
pub ran_more : {w m u : World} (rs : List Request) (i : ℕ) (r : Request) (said said' : List Answer) (a : Answer) → i < length rs
    → Ran Step w (take i rs) said m → Step m (get_or rs i r) a u → said' ≡ said ++ a ∷ [] → Ran Step w (take (i + 1) rs) said' u
ran_more {w} {m} {u} rs i r said said' a lt p s e =
    subst (λ (l : List Answer). Ran Step w (take (i + 1) rs) l u) (sym e)
    (subst (λ (l : List Request). Ran Step w l (said ++ a ∷ []) u) (sym (take_more rs i r lt)) (ran_push Step p s))

-- the laws of each step hold of the run
pub ran_between : {w u : World} {rs : List Request} {said : List Answer} → Ran Step w rs said u → Between w (deeds rs said) u
ran_between (Ran.none {s = w}) = still w
ran_between (Ran.more {s = w} {t = m} {u = u} {c = r} {a = a} {cs = rs} {said = said} s p) = joined w m u (deed r a ∷ []) (deeds rs said) (step_between s) (ran_between p)

pub onward : {w u : World} {rs : List Request} {said : List Answer} (p : Ran Step w rs said u) (j k : ℕ) → j ≤ k → Onward (moment Step p j).holds (moment Step p k).holds
onward (Ran.none {s = w}) j k le = onward_same w.holds
onward (Ran.more {s = w} s p) zero k le = (ran_between (before Step (Ran.more s p) k)).onward
onward (Ran.more s p) (suc j) zero le = absurd (not-suc-le-zero le)
onward (Ran.more s p) (suc j) (suc k) le = onward p j k (le_of_suc-le-suc le)

pub kept : (start : List Slip) (rs : List Request) (said : List Answer) (u : World) → Ran Step (fresh start) rs said u → Kept start rs said u
kept start rs said u p = record {
  ran = p;
  only = λ said' u' q. ran_one p (fresh start) u' said' refl q;
  at = moment Step p;
  before = before Step p;
  rest = rest Step p;
  laws = λ k. lawful start (deeds (take k rs) (take k said)) (moment Step p k) (ran_between (before Step p k));
  onward = onward p;
}

-- the whole list, once the index has passed its end, from a table with no holds and the hand as it was handed in
pub whole : (hs : List Entry) (start hand : List Slip) (rs : List Request) (said : List Answer) (i : ℕ) (u : World)
    → hs ≡ [] → hand ≡ start → length rs ≤ i → Ran Step (record { holds = hs; hand = hand }) (take i rs) said u → Kept start rs said u
whole hs start hand rs said i u none same le p =
    kept start rs said u
    (subst (λ (w : World). Ran Step w rs said u) (λ j. record { holds = none j; hand = same j })
    (subst (λ (l : List Request). Ran Step (record { holds = hs; hand = hand }) l said u) (take_all i rs le) p))
