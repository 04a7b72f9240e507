-- A close that returns the number of a version has made it of all that was written.
use Rattle.std.specs.Prelude.{◌≡◌, ℕ, Some, Ok, find}
use Rattle.std.specs.Option.{option_map}
use Rattle.ele_model.specs.declared.event.Event.TheVariants.{Close}
use Rattle.ele_model.specs.declared.reply.Reply.TheVariants.{Closed}
use Rattle.ele_model.specs.declared.rows.DraftRow.{DraftRow}
use Rattle.ele_model.specs.Step.{step}
use Rattle.ele_model.specs.WellFormed.{IsWellFormed}
use Rattle.ele_model.specs.World.{World, is_draft, is_version, file_by}

-- the handle writes a file's draft, and the file's version of that number has the draft's cells
pub record KeepsDraft (before : World) (handle number : ℕ) (after : World) : Type 0 where
  pub file : ℕ
  pub draft : DraftRow
  pub written : file_by before.handles handle ≡ Ok file
  pub drafted : find (is_draft file) before.drafts ≡ Some draft
  pub kept : option_map (λ row. row.cells) (find (is_version file number) after.versions) ≡ Some draft.cells

abbrev pub CloseKeeps : Type 0
CloseKeeps =
    (w : World) (handle number : ℕ) → IsWellFormed w → (step w (Close handle)).0 ≡ Closed (Some number)
    → KeepsDraft w handle number ((step w (Close handle)).1)
