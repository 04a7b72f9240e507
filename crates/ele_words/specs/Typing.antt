-- How the program ends after a run whose lines were typed: what its reader and its two writers hold then, and its exit status.
use Rattle.std.specs.Prelude.{◌≡◌, ℕ, List, Option, Result}
use Rattle.std.specs.Result.{result_err}
use Rattle.ele_dialog.specs.Dialog.{EndsDialog}
use Rattle.ele_history.specs.Past.{Past}
use Rattle.ele_output.specs.Outlet.{Outlet}
use Rattle.ele_run_options.specs.declared.fault.ShellFault.{ShellFault}
use Rattle.ele_words.specs.Status.{TellsFault, status_of}

-- the lines were answered to their end, or up to a fault; the fault was reported, and the status is its own
pub record TypingEnds (before : Past) (input rest old new : Option (List ℕ)) (untold told : Outlet) (status : ℕ) : Type 0 where
  pub ended : Result (Unit {0}) ShellFault
  pub done : EndsDialog before input rest old new ended
  pub status_is : status ≡ status_of (result_err ended)
  pub reported : TellsFault (result_err ended) untold told
