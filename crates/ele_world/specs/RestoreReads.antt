-- After a restore its path names a file whose current version has the content of the version that the path had at the moment.
use Rattle.std.specs.Prelude.{◌≡◌, ℕ, List, Ok}
use Rattle.ele_content.specs.Content.{content_of}
use Rattle.ele_model.specs.declared.event.Event.TheVariants.{Restore}
use Rattle.ele_model.specs.declared.reply.Reply.TheVariants.{Version}
use Rattle.ele_model.specs.declared.rows.VersionRow.{VersionRow}
use Rattle.ele_model.specs.Step.{step, version_then}
use Rattle.ele_model.specs.WellFormed.{IsWellFormed}
use Rattle.ele_model.specs.World.{World}
use Rattle.ele_world.specs.SaveReads.{HasBytes}

-- that version was held, and its bytes are what the path has now. A version of the same file has the same cells, and so the same blocks
pub record BringsBack (before : World) (path : List (List ℕ)) (moment number : ℕ) (after : World) : Type 0 where
  pub was : VersionRow
  pub found : version_then before path moment ≡ Ok was
  pub has : HasBytes before.now path number (content_of was.cells) after
  pub cells : has.file ≡ was.file → has.is.cells ≡ was.cells

abbrev pub RestoreReads : Type 0
RestoreReads =
    (w : World) (path : List (List ℕ)) (moment number : ℕ) → IsWellFormed w → (step w (Restore path moment)).0 ≡ Version number
    → BringsBack w path moment number ((step w (Restore path moment)).1)
