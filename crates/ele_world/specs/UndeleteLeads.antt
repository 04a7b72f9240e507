-- After an undelete the path leads to what its name last meant; a version that it made has the cells of the one before.
use Rattle.std.specs.Prelude.{◌≡◌, ℕ, List, Some, None, Ok}
use Rattle.ele_model.specs.declared.event.Event.TheVariants.{Undelete}
use Rattle.ele_model.specs.declared.reply.Reply.TheVariants.{Done, Version}
use Rattle.ele_model.specs.declared.rows.Target.{Target}
use Rattle.ele_model.specs.declared.rows.Target.TheVariants.{File}
use Rattle.ele_model.specs.declared.rows.VersionRow.{VersionRow}
use Rattle.ele_model.specs.NameRows.{last_dead}
use Rattle.ele_model.specs.Step.{step}
use Rattle.ele_model.specs.Walk.{walk_now, parent_now}
use Rattle.ele_model.specs.WellFormed.{IsWellFormed}
use Rattle.ele_model.specs.World.{World, current_of}

-- the path leads to the target, which its name last meant
pub record LeadsAgain (before : World) (path : List (List ℕ)) (target : Target) (after : World) : Type 0 where
  pub home : ℕ × List ℕ
  pub stands : parent_now before.names path ≡ Ok home
  pub lost : last_dead before.names home.0 home.1 ≡ Some target
  pub leads : walk_now after.names path ≡ Ok target

-- no version has changed
pub record HasNameAgain (before : World) (path : List (List ℕ)) (after : World) : Type 0 where
  pub target : Target
  pub named : LeadsAgain before path target after
  pub versions : after.versions ≡ before.versions

-- the version with that number is the file's current one, and has the cells of the one that was the last
pub record HasVersionAgain (before : World) (path : List (List ℕ)) (number : ℕ) (after : World) : Type 0 where
  pub file : ℕ
  pub last : VersionRow
  pub current : VersionRow
  pub named : LeadsAgain before path (File file) after
  pub was : current_of before file ≡ Some last
  pub is : current_of after file ≡ Some current
  pub numbered : current.number ≡ number
  pub no_end : current.ended ≡ None
  pub cells : current.cells ≡ last.cells

abbrev pub UndeleteLeads : Type 0
UndeleteLeads =
    (w : World) (path : List (List ℕ)) → IsWellFormed w
    → ((step w (Undelete path)).0 ≡ Done → HasNameAgain w path ((step w (Undelete path)).1))
    × ((number : ℕ) → (step w (Undelete path)).0 ≡ Version number → HasVersionAgain w path number ((step w (Undelete path)).1))
