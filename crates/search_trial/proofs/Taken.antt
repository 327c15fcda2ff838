-- What is read of a network, put together.
use Rattle.std.proofs.Common.{◌≡◌, ℕ, List, Some, None, Ok, Err, Option, Result, sym, ap, subst, ◌∙◌}
use Rattle.std.specs.Result.{IsErrAnd}
use Rattle.flow.specs.Network.{Network}
use Rattle.flow.specs.declared.Arc.{Arc}
use Rattle.network.specs.Limits.{written}
use Rattle.network.specs.Stored.{fault}
use Rattle.network.specs.declared.stored.NetworkError.{NetworkError}
use Rattle.search_trial.specs.Entries.{short}
use Rattle.search_trial.specs.Reading.{Fresh, Reads, arcs_in, behind, ranks_in}
use Rattle.search_trial.specs.declared.trial.Trial.{Trial}
use Rattle.search_trial.specs.declared.trial.error.TrialError.{TrialError}
use Rattle.search_trial.specs.declared.trial.error.TrialError.TheVariants.{NoNetwork}

-- all that the numbers ns give, and what is left of them
pub record Taken (nodes : ℕ) (ns : List ℕ) (source asked : ℕ) (ranks : List (Option ℕ)) (arcs : List Arc) (rest : List ℕ) : Type 0 where
  pub source_is : source ≡ short ns 1
  pub asked_is : asked ≡ short ns 2
  pub ranks_are : ranks ≡ ranks_in nodes ns
  pub arcs_are : arcs ≡ arcs_in nodes ns
  pub rest_is : rest ≡ behind nodes ns

module _ (nodes source asked : ℕ) (ns rest : List ℕ) (ranks : List (Option ℕ)) (arcs : List Arc) (k : Taken nodes ns source asked ranks arcs rest) where
  fault_same : fault (short ns 1) (arcs_in nodes ns) (ranks_in nodes ns) ≡ fault source arcs ranks
  fault_same = sym (ap (λ x. fault x arcs ranks) k.source_is ∙ ap (λ x. fault (short ns 1) x ranks) k.arcs_are ∙ ap (λ x. fault (short ns 1) (arcs_in nodes ns) x) k.ranks_are)

  written_same : written source arcs ranks ≡ written (short ns 1) (arcs_in nodes ns) (ranks_in nodes ns)
  written_same = ap (λ x. written x arcs ranks) k.source_is ∙ ap (λ x. written (short ns 1) x ranks) k.arcs_are ∙ ap (λ x. written (short ns 1) (arcs_in nodes ns) x) k.ranks_are

  -- the answer of `read`: a trial, or what is wrong
  pub made : (N : Network) (t : Trial) → fault source arcs ranks ≡ None → N ≡ written source arcs ranks → Fresh t N asked → Reads nodes ns rest (Ok t)
  made N t right means fresh = (
    fault_same ∙ right,
    subst (λ n. Fresh t (written (short ns 1) (arcs_in nodes ns) (ranks_in nodes ns)) n) k.asked_is (subst (λ M. Fresh t M asked) (means ∙ written_same) fresh),
    k.rest_is,
  )

  pub refused : (f : NetworkError) (r : Result Trial TrialError) → fault source arcs ranks ≡ Some f → IsErrAnd r (λ e. e ≡ NoNetwork f) → Reads nodes ns rest r
  refused f (Ok t) wrong told = absurd told
  refused f (Err e) wrong told = subst (λ x. Reads nodes ns rest (Err x)) (sym told) (fault_same ∙ wrong, k.rest_is)
