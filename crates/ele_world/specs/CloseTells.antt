-- The close of a handle that writes makes a version, and returns its number, exactly if the draft was changed and no other handle writes
-- it. A close that returns no number has changed no version.
use Rattle.std.specs.Prelude.{◌≡◌, ℕ, ◌&&◌, not, Some, None, Ok, find, if◌then◌else◌}
use Rattle.ele_model.specs.declared.event.Event.TheVariants.{Close}
use Rattle.ele_model.specs.declared.reply.Reply.TheVariants.{Closed}
use Rattle.ele_model.specs.declared.rows.DraftRow.{DraftRow}
use Rattle.ele_model.specs.Step.{step, has_other_writer}
use Rattle.ele_model.specs.World.{World, file_by, is_draft, next_of}

abbrev pub CloseTells : Type 0
CloseTells =
    (w : World) (handle file : ℕ) (draft : DraftRow) → file_by w.handles handle ≡ Ok file → find (is_draft file) w.drafts ≡ Some draft
    → (step w (Close handle)).0 ≡ Closed (if draft.changed && not (has_other_writer w handle file) then Some (next_of w.files file) else None)

abbrev pub CloseLeaves : Type 0
CloseLeaves = (w : World) (handle : ℕ) → (step w (Close handle)).0 ≡ Closed None → ((step w (Close handle)).1).versions ≡ w.versions
