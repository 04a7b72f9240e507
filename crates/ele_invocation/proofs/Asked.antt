-- A run that is asked for, and one that is refused.
use Rattle.std.proofs.Common.{◌≡◌, ◌⊎◌, ℕ, List, Option, None, Some, inl, inr, codes, refl, sym, subst}
use Rattle.std.proofs.lemmas.Option.{same_Some}
use Rattle.clap.specs.Words.{Row, first_of}
use Rattle.ele_model.specs.Bounds.{largest_bounds}
use Rattle.ele_run_options.specs.declared.options.RunOptions.{RunOptions}
use Rattle.ele_invocation.specs.Invocation.{IsRefusal, IsRun}
use Rattle.ele_invocation.specs.Matches.{HasNumber}
use Rattle.ele_invocation.specs.Runs.{AsksRun, IsEvents, options_of}
use Rattle.ele_invocation.specs.declared.invocation.Invocation.{Invocation}
use Rattle.ele_invocation.specs.declared.invocation.Invocation.TheVariants.{Run, Storm, Forecast, Evidence, Verify, Help, NotUnderstood, NoMemory}

pub run_refused : (rows : List Row) (asked : Invocation) → IsRefusal asked → ((n : ℕ) → ¬ AsksRun rows n) → IsRun rows asked
run_refused rows (Run limits options) is none = absurd is
run_refused rows (Storm plan) is none = absurd is
run_refused rows (Forecast ask others) is none = absurd is
run_refused rows Evidence is none = absurd is
run_refused rows Verify is none = absurd is
run_refused rows (Help text) is none = absurd is
run_refused rows (NotUnderstood text) is none = (is, none)
run_refused rows NoMemory is none = (is, none)

pub run_or_not : (rows : List Row) (events : ℕ) (options : RunOptions) (asked : Invocation) → first_of (codes "file") rows ≡ None → HasNumber (codes "events") rows events
    → ((n : ℕ) → HasNumber (codes "events") rows n → ◌≡◌ {A = Option ℕ} (Some events) (Some n)) → options ≡ options_of rows
    → (IsEvents events → asked ≡ Run (record largest_bounds { events = events }) options) → ((¬ IsEvents events) → IsRefusal asked) → IsEvents events ⊎ (¬ IsEvents events) → IsRun rows asked
run_or_not rows events options asked no_file found only same run refused (inl fits) =
    subst (IsRun rows) (sym (run fits)) (record { no_file = no_file; events_are = found; fit = fits }, refl, same)
run_or_not rows events options asked no_file found only same run refused (inr unfit) =
    run_refused rows asked (refused unfit) (λ n asks. unfit (subst IsEvents (sym (same_Some events n (only n asks.events_are))) asks.fit))
