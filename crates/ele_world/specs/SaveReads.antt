-- After a save its path names a file whose current version has the saved bytes, and a read of the path gives them.
use Rattle.std.specs.Prelude.{◌≡◌, ℕ, List, Some, None, Ok}
use Rattle.ele_content.specs.Content.{content_of}
use Rattle.ele_path.specs.declared.tagged.Tag.TheVariants as tag
use Rattle.ele_model.specs.declared.event.Event.TheVariants.{Read, Save}
use Rattle.ele_model.specs.declared.event.Source.TheVariants.{Tagged}
use Rattle.ele_model.specs.declared.reply.Reply.TheVariants.{Bytes, Version}
use Rattle.ele_model.specs.declared.rows.VersionRow.{VersionRow}
use Rattle.ele_model.specs.Step.{step}
use Rattle.ele_model.specs.Walk.{file_now}
use Rattle.ele_model.specs.WellFormed.{IsWellFormed}
use Rattle.ele_model.specs.World.{World, current_of}

-- the path names a file whose current version is new, opened and closed at that moment, with these bytes
pub record HasBytes (now : ℕ) (path : List (List ℕ)) (number : ℕ) (bytes : List ℕ) (after : World) : Type 0 where
  pub file : ℕ
  pub is : VersionRow
  pub named : file_now after.names path ≡ Ok file
  pub current : current_of after file ≡ Some is
  pub numbered : is.number ≡ number
  pub opened : is.opened ≡ now
  pub closed : is.closed ≡ now
  pub no_end : is.ended ≡ None
  pub content : content_of is.cells ≡ bytes
  pub read : (step after (Read (Tagged (record { path = path; tag = tag.Now })))).0 ≡ Bytes bytes

abbrev pub SaveReads : Type 0
SaveReads =
    (w : World) (path : List (List ℕ)) (bytes : List ℕ) (number : ℕ) → IsWellFormed w → (step w (Save path bytes)).0 ≡ Version number
    → HasBytes w.now path number bytes ((step w (Save path bytes)).1)
