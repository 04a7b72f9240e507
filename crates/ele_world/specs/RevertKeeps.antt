-- A revert gives the file a current version with the cells of the version that it names; that one and all others keep theirs.
use Rattle.std.specs.Prelude.{◌≡◌, ℕ, List, Some, Ok}
use Rattle.ele_path.specs.declared.tagged.Tag.TheVariants.{Number}
use Rattle.ele_model.specs.declared.event.Event.TheVariants.{Revert}
use Rattle.ele_model.specs.declared.reply.Reply.TheVariants.{Version}
use Rattle.ele_model.specs.declared.rows.VersionRow.{VersionRow}
use Rattle.ele_model.specs.Step.{step}
use Rattle.ele_model.specs.Tagged.{version_meant}
use Rattle.ele_model.specs.Walk.{file_now}
use Rattle.ele_model.specs.WellFormed.{IsWellFormed}
use Rattle.ele_model.specs.World.{World, current_of}

-- the file at the path had that version, and its current one is new, opened and closed now, with the same cells
pub record CopiesVersion (before : World) (path : List (List ℕ)) (number made : ℕ) (after : World) : Type 0 where
  pub file : ℕ
  pub was : VersionRow
  pub is : VersionRow
  pub named : file_now before.names path ≡ Ok file
  pub meant : version_meant before.files before.versions file (Number number) ≡ Ok was
  pub current : current_of after file ≡ Some is
  pub numbered : is.number ≡ made
  pub cells : is.cells ≡ was.cells
  pub opened : is.opened ≡ before.now
  pub closed : is.closed ≡ before.now

abbrev pub RevertKeeps : Type 0
RevertKeeps =
    (w : World) (path : List (List ℕ)) (number made : ℕ) → IsWellFormed w → (step w (Revert path number)).0 ≡ Version made
    → CopiesVersion w path number made ((step w (Revert path number)).1)
