-- Why no trial was read, in words. Those of a failed allocation are the library's, which states none.
use Rattle.std.specs.Prelude.{ℕ, List, Some, None, Option}
use Rattle.network.specs.Faults.{fault_text}
use Rattle.search_trial.specs.declared.trial.error.TrialError.{TrialError}
use Rattle.search_trial.specs.declared.trial.error.TrialError.TheVariants.{OutOfMemory, NoNetwork}

abbrev pub error_text : TrialError → Option (List ℕ)
error_text (NoNetwork f) = Some (fault_text f)
error_text (OutOfMemory e) = None
