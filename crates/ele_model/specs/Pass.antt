-- Passes, and how one with a budget ends.
use Rattle.std.specs.Prelude.{◌≡◌, ℕ, suc, zero, ◌+◌, ◌<◌, length, filter, None, IsSome}
use Rattle.ele_model.specs.declared.pass.PassEnd.{PassEnd}
use Rattle.ele_model.specs.declared.pass.PassEnd.TheVariants.{Finished, Budget, Stopped}
use Rattle.ele_model.specs.Due.{is_due_at, kept_rows}
use Rattle.ele_model.specs.Scan.{first_due}
use Rattle.ele_model.specs.Step.{clean_step}
use Rattle.ele_model.specs.World.{World}

-- the world after so many clean events
abbrev pub after_cleans : ℕ → World → World
after_cleans zero w = w
after_cleans (suc n) w = after_cleans n ((clean_step w).1)

-- the world after so many clean events, each of which removed a version
pub record IsCleaned (w : World) (removed : ℕ) (after : World) : Type 0 where
  pub each : (k : ℕ) → k < removed → IsSome (first_due (after_cleans k w))
  pub after_is : after ≡ after_cleans removed w

-- a pass: clean events in a row, until the reply that nothing is due
pub record IsPass (w : World) (removed : ℕ) (after : World) : Type 0 where
  pub cleaned : IsCleaned w removed after
  pub last : first_due after ≡ None

-- so many versions were removed, each of which was due as the pass began; those that weren't due are as they were
pub record HasRemoved (w : World) (removed : ℕ) (after : World) : Type 0 where
  pub cleaned : IsCleaned w removed after
  pub count : length after.versions + removed ≡ length w.versions
  pub kept : kept_rows after ≡ kept_rows w

-- nothing is due any more, before the budget is used up: all that was due is removed, and the rest is kept
pub record IsFinished (w : World) (budget removed : ℕ) (after : World) : Type 0 where
  pub pass : IsPass w removed after
  pub below : removed < budget
  pub kept : after.versions ≡ kept_rows w
  pub count : removed ≡ length (filter (λ row. is_due_at w row w.now) w.versions)

-- a pass from a world with that budget, how it ended, and the world that it left
abbrev pub EndsPass : World → ℕ → PassEnd → World → Type 0
EndsPass w budget (Finished removed) after = IsFinished w budget removed after
EndsPass w budget (Budget removed) after = (removed ≡ budget) × HasRemoved w removed after
EndsPass w budget (Stopped stop removed) after = (removed < budget) × HasRemoved w removed after
