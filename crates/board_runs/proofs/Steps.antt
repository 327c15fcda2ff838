-- Steps at a desk.
use Rattle.std.proofs.Common.{◌≡◌, ℕ, List, Some, None, Err, Option, sym, refl, ap, ◌∙◌, subst}
use Rattle.std.specs.List.{slice_get, insert, remove}
use Rattle.refusals.specs.declared.Refusal.{Refusal}
use Rattle.refusals.specs.declared.Refusal.TheVariants.{NotAsNeeded}
use Rattle.refusals.specs.Refusals.{Decides}
use Rattle.slips.specs.declared.moves.Act.{Act}
use Rattle.slips.specs.declared.refusal.Returned.{Returned}
use Rattle.slips.specs.declared.slip.Slip.{Slip}
use Rattle.slips.proofs.Hands.{put_again}
use Rattle.board.specs.Calls.{Spends}
use Rattle.board.specs.States.{State, Stands}
use Rattle.board_runs.specs.Asks.{Ask, Reply, spend, refused}
use Rattle.board_runs.specs.Steps.{World, Step, Accepted, made, rules_of, spending_at, turned_away}

module _ (c : Ask) (s s' : State) (hand hand' : List Slip) (plan plan' : ℕ → ℕ → ℕ) (stands : Stands s' plan') where
  abbrev before : World
  before = record { board = s; hand = hand }

  abbrev afterwards : World
  afterwards = record { board = s'; hand = hand' }

  -- a refusal leaves board, hand and plan
  pub stays : (why : Refusal) → Decides (rules_of before c) (Some why) → s' ≡ s → hand' ≡ hand → plan' ≡ plan
      → Step (record { world = before; plan = plan }) c (turned_away c why) (record { world = afterwards; plan = plan' })
  stays why decided board slips same = record {
    outcome = Some why;
    decided = decided;
    leaves = λ i. record { board = board i; hand = slips i };
    answered = refl;
    stands = stands;
    kept = λ w e. same;
  }

  -- an accepted call
  pub goes : (a : Reply) → Decides (rules_of before c) None → afterwards ≡ made before c → Accepted before c a → Step (record { world = before; plan = plan }) c a (record { world = afterwards; plan = plan' })
  goes a decided leaves answered = record { outcome = None; decided = decided; leaves = leaves; answered = answered; stands = stands; kept = λ w e. cc }

-- a slip that was not taken is back in its place
pub spend_stays : (place : ℕ) (act : Act) (slip : Slip) (back : Returned) (s s' : State) (hand hand' : List Slip) (plan plan' : ℕ → ℕ → ℕ) → Stands s' plan' → slice_get hand place ≡ Some slip
    → Spends s slip act (Err back) s' → hand' ≡ insert (remove hand place) place back.slip → plan' ≡ plan
    → Step (record { world = record { board = s; hand = hand }; plan = plan }) (spend place act) (refused NotAsNeeded) (record { world = record { board = s'; hand = hand' }; plan = plan' })
spend_stays place act slip back s s' hand hand' plan plan' stands at spends put same =
    stays (spend place act) s s' hand hand' plan plan' stands NotAsNeeded
    (subst (λ (o : Option Slip). Decides (spending_at s act o) (Some NotAsNeeded)) (sym at) spends.0) spends.2
    (put ∙ ap (λ (b : Returned). insert (remove hand place) place b.slip) spends.1 ∙ put_again hand place slip at) same
