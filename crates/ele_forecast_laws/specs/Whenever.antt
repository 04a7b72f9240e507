-- A finished pass leaves the versions that a forecast says stay, whatever was cleaned before.
use Rattle.std.specs.Prelude.{◌≡◌, ℕ, true, not, ◌||◌, List, [], filter}
use Rattle.std.specs.List.{AllByRecursion}
use Rattle.ele_policy.specs.declared.policy.Policy.{Policy}
use Rattle.ele_model.specs.declared.event.Event.{Event}
use Rattle.ele_model.specs.FileView.{file_view}
use Rattle.ele_model.specs.Pass.{IsPass}
use Rattle.ele_world.specs.PlainEvents.{is_clean, is_plain}
use Rattle.ele_model.specs.Run.{run_of, IsEvent}
use Rattle.ele_model.specs.WellFormed.{IsWellFormed}
use Rattle.ele_model.specs.World.{World}
use Rattle.ele_forecast.specs.FileOf.{IsFileOf}
use Rattle.ele_forecast.specs.Stays.{AreKept, come_by, numbers_of}

-- a finished pass from the world leaves them, in the file that has these closings
abbrev pub PassLeavesStaying : Type 0
PassLeavesStaying =
    (policy : Policy) (closings : List ℕ) (at : ℕ) (numbers : List ℕ) → AreKept policy closings at numbers
    → (w : World) (file : ℕ) → IsWellFormed w → w.now ≡ at → IsFileOf policy (come_by at closings) (file_view w file)
    → (removed : ℕ) (after : World) → IsPass w removed after → numbers ≡ numbers_of file after.versions

-- for a run with cleans, from any well-formed world without groups, whose other events are such that the time of cleaning doesn't matter:
-- the forecast is that of the world to which the other events lead
abbrev pub CleanedWhenever : Type 0
CleanedWhenever =
    (policy : Policy) (closings : List ℕ) (at : ℕ) (numbers : List ℕ) → AreKept policy closings at numbers
    → (w : World) (events : List Event) (file : ℕ) → IsWellFormed w → w.groups ≡ []
    → AllByRecursion (λ event. IsEvent event × ((is_clean event || is_plain event) ≡ true)) events
    → let uncleaned = run_of w (filter (λ event. not (is_clean event)) events) in
    uncleaned.now ≡ at → IsFileOf policy (come_by at closings) (file_view uncleaned file)
    → (removed : ℕ) (after : World) → IsPass (run_of w events) removed after → numbers ≡ numbers_of file after.versions
