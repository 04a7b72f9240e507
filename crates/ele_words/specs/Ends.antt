-- How the program ends: what its reader, its writer and its printer of faults hold then, and its exit status.
use Rattle.std.specs.Prelude.{◌≡◌, ℕ, Bool, List, string_bytes, Option}
use Rattle.std.specs.Io.KnownBytes.{Keeps}
use Rattle.ele_output.specs.Outlet.{Outlet, Reports}
use Rattle.ele_history.specs.Past.{fresh}
use Rattle.ele_runs.specs.RunState.{begun}
use Rattle.ele_run_options.specs.declared.fault.ShellFault.TheVariants.{NoMemory}
pub use Rattle.ele_words.specs.Status.{fault_line, TellsFault}
use Rattle.ele_words.specs.Evidence.{EvidenceEnds, VerifyEnds}
use Rattle.ele_words.specs.Forecasts.{ForecastEnds}
pub use Rattle.ele_words.specs.RunEnds.{RunEnds}
pub use Rattle.ele_words.specs.Written.{Ends, HasWritten}
use Rattle.ele_words.specs.Progress.{EndsWatched}
use Rattle.ele_invocation.specs.declared.invocation.Invocation.{Invocation}
use Rattle.ele_invocation.specs.declared.invocation.Invocation.TheVariants as invocation

-- without other threads, by what was asked for; arguments that weren't understood have status 2
abbrev pub EndsAlone : Invocation → Option (List ℕ) → Option (List ℕ) → Option (List ℕ) → Option (List ℕ) → Outlet → Outlet → ℕ → Type 0
EndsAlone (invocation.Run limits options) input rest old new before after status =
    RunEnds (begun options (fresh limits) before) input rest old new after status
-- a storm needs threads
EndsAlone (invocation.Storm plan) input rest old new before after status = ⊥
EndsAlone (invocation.Forecast ask file) input rest old new before after status = ForecastEnds ask input rest old new before after status
EndsAlone invocation.Evidence input rest old new before after status = EvidenceEnds input rest old new before after status
EndsAlone invocation.Verify input rest old new before after status = VerifyEnds input rest old new before after status
EndsAlone (invocation.Help text) input rest old new before after status =
    Keeps input rest × Ends (HasWritten (string_bytes text) old new) before after status
EndsAlone (invocation.NotUnderstood text) input rest old new before after status =
    Keeps input rest × Keeps old new × Reports before after (string_bytes text) × (status ≡ 2)
EndsAlone invocation.NoMemory input rest old new before after status =
    Keeps input rest × Keeps old new × Reports before after (fault_line NoMemory) × (status ≡ 3)

-- with threads; only a storm may be watched, and shows its progress
abbrev pub EndsWith : Invocation → Bool → Option (List ℕ) → Option (List ℕ) → Option (List ℕ) → Option (List ℕ) → Option (List ℕ) → Option (List ℕ) → Outlet → Outlet → ℕ → Type 0
EndsWith (invocation.Storm plan) watched input rest old new shown seen before after status =
    Keeps input rest × EndsWatched watched plan old new shown seen before after status
EndsWith asked watched input rest old new shown seen before after status = Keeps shown seen × EndsAlone asked input rest old new before after status
