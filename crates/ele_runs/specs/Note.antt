-- The reason that a run prints beside the block of a bad line.
use Rattle.std.specs.Prelude.{◌≡◌, ◌≢◌, ℕ, ◌+◌, List, [], Option, Some, true, false, ◌⊎◌, if◌then◌else◌}
use Rattle.ele_output.specs.Outlet.{Outlet, Reports}
use Rattle.ele_printer.specs.Printed.{bad_text}
use Rattle.ele_printer.specs.declared.fault.LineFault.{LineFault}
use Rattle.ele_runs.specs.RunState.{RunState}
use Rattle.ele_run_options.specs.RunOptions.{tells_reasons}
use Rattle.ele_runs.specs.Tally.{outcome_of}
use Rattle.ele_runs.specs.WhyBad.{IsToldReason, IsUntold, cut_reason, why_line}
use Rattle.ele_runs.specs.declared.tally.Outcome.TheVariants.{Bad}
use Rattle.ele_run_options.specs.declared.options.RunOptions.{RunOptions}
use Rattle.ele_reasons.specs.declared.reasons.Reason.{Reason}

-- there is nothing to print: reasons aren't printed, or the block isn't that of a bad line, or memory to find the reason may
-- have been refused
abbrev pub HasNoReason : RunOptions → Option (List ℕ) → List ℕ → Type 0
HasNoReason options line block = (tells_reasons options ≡ false) ⊎ (outcome_of block ≢ Bad) ⊎ IsUntold options line

-- nothing, or the reason of the bad line with this number, which is written at once
pub data IsNoted (options : RunOptions) (number : ℕ) (line : Option (List ℕ)) (block : List ℕ) (old new : Outlet) : Type 0 where
  nothing : HasNoReason options line block → new ≡ old → IsNoted options number line block old new
  reason : tells_reasons options ≡ true → (fault : LineFault) → block ≡ bad_text fault → (why : Reason) → IsToldReason options line why → Reports old new (why_line number (Some why))
      → IsNoted options number line block old new

-- why a last line without its line feed is never run, if reasons are printed
abbrev pub cut_note : RunState → Option (List ℕ) → List ℕ
cut_note run_state last = if tells_reasons run_state.options then why_line (run_state.number + 1) (cut_reason last) else []
