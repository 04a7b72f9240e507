-- How the pass of a history relates to its world.
use Rattle.std.specs.Prelude.{◌≡◌, ℕ, ◌+◌}
use Rattle.ele_model.specs.declared.pass.PassEnd.{PassEnd}
use Rattle.ele_model.specs.declared.pass.PassEnd.TheVariants.{Finished, Budget, Stopped}
use Rattle.ele_model.specs.Pass.{EndsPass, IsCleaned, IsPass}
use Rattle.ele_model.specs.WellFormed.{IsWellFormed}
use Rattle.ele_model.specs.World.{World}
use Rattle.ele_history.specs.Pass.{MayPass}
use Rattle.ele_history.specs.Past.{Past, count_of, world_of}

-- a pass that finished is one of the world, and any other is so many clean events that removed a version
abbrev pub IsOfWorld : World → PassEnd → World → Type 0
IsOfWorld w (Finished removed) after = IsPass w removed after
IsOfWorld w (Budget removed) after = IsCleaned w removed after
IsOfWorld w (Stopped stop removed) after = IsCleaned w removed after

-- how many entries it made
abbrev pub entries_of : PassEnd → ℕ
entries_of (Finished removed) = removed + 1
entries_of (Budget removed) = removed
entries_of (Stopped stop removed) = removed

pub record PassOfWorld (before : Past) (end : PassEnd) (after : Past) : Type 0 where
  pub world : IsOfWorld (world_of before) end (world_of after)
  pub count : count_of after ≡ count_of before + entries_of end
  pub base : after.base ≡ before.base

abbrev pub PassIsOfWorld : Type 0
PassIsOfWorld = (before after : Past) (budget : ℕ) (end : PassEnd) → MayPass before budget end after → PassOfWorld before end after

-- and it ends as a core's pass does, in how many were due as it began, and what stays
abbrev pub PassEndsAsOfWorld : Type 0
PassEndsAsOfWorld =
    (before after : Past) (budget : ℕ) (end : PassEnd) → IsWellFormed (world_of before) → MayPass before budget end after
    → EndsPass (world_of before) budget end (world_of after)
