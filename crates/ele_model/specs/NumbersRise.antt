-- The time never goes back, limits stay, no count and no file's next number falls, and a new file gets an unused number.
use Rattle.std.specs.Prelude.{◌≡◌, ◌⊎◌, ℕ, ◌<◌, ◌≤◌, true, false}
use Rattle.std.specs.List.{list_any}
use Rattle.ele_model.specs.declared.event.Event.{Event}
use Rattle.ele_model.specs.declared.limits.Counts.{Counts}
use Rattle.ele_model.specs.Step.{step}
use Rattle.ele_model.specs.WellFormed.{IsWellFormed}
use Rattle.ele_model.specs.World.{World, is_file, next_of}

pub record CountsOn (before after : Counts) : Type 0 where
  pub files : before.files ≤ after.files
  pub directories : before.directories ≤ after.directories
  pub names : before.names ≤ after.names
  pub versions : before.versions ≤ after.versions
  pub handles : before.handles ≤ after.handles
  pub groups : before.groups ≤ after.groups
  pub members : before.members ≤ after.members
  pub marks : before.marks ≤ after.marks

-- each file of before has the same next number or a greater one, or was dropped; any other file is new
pub record GoesOn (before after : World) : Type 0 where
  pub now : before.now ≤ after.now
  pub made : CountsOn before.made after.made
  pub limits : after.limits ≡ before.limits
  pub next : (file : ℕ) → (next_of before.files file ≤ next_of after.files file) ⊎ (list_any (is_file file) after.files ≡ false)
  pub fresh : (file : ℕ) → list_any (is_file file) after.files ≡ true → (list_any (is_file file) before.files ≡ true) ⊎ (before.made.files < file)

abbrev pub NumbersRise : Type 0
NumbersRise = (w : World) (event : Event) → IsWellFormed w → GoesOn w ((step w event).1)
