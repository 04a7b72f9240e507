-- The first handle that writes a file reads the content of its current version, and a later one the content of the file's draft.
use Rattle.std.specs.Prelude.{◌≡◌, ℕ, List, Some, true, false, Ok}
use Rattle.ele_content.specs.Content.{content_of}
use Rattle.ele_model.specs.declared.event.Event.TheVariants.{OpenWrite, Read}
use Rattle.ele_model.specs.declared.event.Source.TheVariants.{Of}
use Rattle.ele_model.specs.declared.reply.Reply.TheVariants.{Handle, Bytes}
use Rattle.ele_model.specs.declared.rows.VersionRow.{VersionRow}
use Rattle.ele_model.specs.Step.{step, draft_cells}
use Rattle.ele_model.specs.Walk.{file_now}
use Rattle.ele_model.specs.WellFormed.{IsWellFormed}
use Rattle.ele_model.specs.World.{World, current_of, has_draft, file_by}

pub record BeginsDraft (before : World) (path : List (List ℕ)) (handle : ℕ) (after : World) : Type 0 where
  pub file : ℕ
  pub current : VersionRow
  pub named : file_now before.names path ≡ Ok file
  pub is : current_of before file ≡ Some current
  pub writes : file_by after.handles handle ≡ Ok file
  pub first : has_draft before file ≡ false → (step after (Read (Of handle))).0 ≡ Bytes (content_of current.cells)
  pub later : has_draft before file ≡ true → (step after (Read (Of handle))).0 ≡ Bytes (content_of (draft_cells before file))

abbrev pub DraftBegins : Type 0
DraftBegins =
    (w : World) (path : List (List ℕ)) (handle : ℕ) → IsWellFormed w → (step w (OpenWrite path)).0 ≡ Handle handle
    → BeginsDraft w path handle ((step w (OpenWrite path)).1)
