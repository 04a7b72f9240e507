-- The result of closing a handle, and the drafts and handles after it.
use Rattle.std.specs.Prelude.{ℕ, Bool, List, Option, Some, None, Result, Ok, Err, find, if◌then◌else◌}
use Rattle.std.specs.List.{list_any}
use Rattle.ele_blocks.specs.Layout.{Layout}
use Rattle.ele_sessions.specs.declared.closing.Closing.{Closing}
use Rattle.ele_sessions.specs.declared.closing.Closing.TheVariants.{StillOpen, Clean, Changed, Unread}
use Rattle.ele_lists.specs.Lists.{remove_first}
use Rattle.ele_sessions.specs.Sessions.{Draft, AllSessions, is_draft}
use Rattle.ele_model.specs.World.{is_handle, is_writer, reads_by}
use Rattle.ele_model.specs.declared.refusal.Refusal.{Refusal}
use Rattle.ele_model.specs.declared.rows.HandleRow.{HandleRow}
use Rattle.ele_model.specs.declared.rows.Reads.{Reads}
use Rattle.ele_model.specs.declared.rows.Reads.TheVariants as reads

-- the other handles
abbrev pub left_handles : AllSessions → ℕ → List HandleRow
left_handles s handle = remove_first (is_handle handle) s.handles

-- what the close of its last writer does to a draft, and its map
abbrev pub ending : Draft → Closing × Option Layout
ending draft =
    (if draft.changed then Changed draft.file draft.opened else Clean draft.file, Some draft.layout)

abbrev pub ending_of : Option Draft → Closing × Option Layout
ending_of None = (StillOpen, None)
ending_of (Some draft) = ending draft

-- while others write the file its draft stays; with the last writer it is removed
abbrev pub file_closing : Bool → Option Draft → Closing × Option Layout
file_closing stays draft = if stays then (StillOpen, None) else ending_of draft

-- the close of a handle that read a version changes nothing else
abbrev pub closing_of : AllSessions → ℕ → Result Reads Refusal → Option (Closing × Option Layout)
closing_of s handle (Err refusal) = None
closing_of s handle (Ok (reads.Draft file)) =
    Some (file_closing (list_any (is_writer file) (left_handles s handle)) (find (is_draft file) s.drafts))
closing_of s handle (Ok (reads.Version file number)) = Some (Unread file number, None)

-- what closing the handle returns; none if there is no such handle
abbrev pub closing : AllSessions → ℕ → Option (Closing × Option Layout)
closing s handle = closing_of s handle (reads_by s.handles handle)

abbrev pub left_drafts : Bool → ℕ → List Draft → List Draft
left_drafts stays file drafts = if stays then drafts else remove_first (is_draft file) drafts

abbrev pub closed_of : AllSessions → ℕ → Result Reads Refusal → AllSessions
closed_of s handle (Err refusal) = s
closed_of s handle (Ok (reads.Draft file)) = record s {
  drafts = left_drafts (list_any (is_writer file) (left_handles s handle)) file s.drafts;
  handles = left_handles s handle;
}
closed_of s handle (Ok (reads.Version file number)) = record s { handles = left_handles s handle }

-- the drafts and handles after the close
abbrev pub closed : AllSessions → ℕ → AllSessions
closed s handle = closed_of s handle (reads_by s.handles handle)
