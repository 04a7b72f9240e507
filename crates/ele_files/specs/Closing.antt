-- The result of closing a handle.
use Rattle.std.specs.Prelude.{ℕ, ◌≤◌, Bool, true, false, List, [], ◌∷◌, Option, Some, None, Result, Ok, Err, IfSome, is_some, find, option_and_then, if◌then◌else◌}
use Rattle.std.specs.List.{list_any}
use Rattle.ele_lists.specs.Lists.{remove_first}
use Rattle.ele_model.specs.declared.refusal.Refusal.{Refusal}
use Rattle.ele_model.specs.declared.rows.Reads.{Reads}
use Rattle.ele_model.specs.declared.rows.Reads.TheVariants as reads
use Rattle.ele_model.specs.declared.rows.VersionRow.{VersionRow}
use Rattle.ele_model.specs.declared.rows.DraftRow.{DraftRow}
use Rattle.ele_model.specs.Change.{Change, ShutHandle, EndDraft, Append}
use Rattle.ele_model.specs.World.{is_draft, is_handle, is_writer, reads_by}
use Rattle.ele_sessions.specs.Sessions.{handle_file}
use Rattle.ele_files.specs.Held.{Held, changed_at, cells_of_draft}

-- the draft that is removed with the handle: that of its file, if no other handle writes it
abbrev pub last_draft : Held → ℕ → ℕ → Option DraftRow
last_draft h handle file =
    if list_any (is_writer file) (remove_first (is_handle handle) h.handles) then None else find (is_draft file) h.drafts

-- when the draft was opened, if it was changed
abbrev pub changed_opening : Option DraftRow → Option ℕ
changed_opening draft = option_and_then (λ draft. if draft.changed then Some draft.opened else None) draft

-- when the draft was opened that the close of the handle turns into a version
abbrev pub opening_by : Held → ℕ → Option ℕ
opening_by h handle = option_and_then (λ file. changed_opening (last_draft h handle file)) (handle_file h.handles handle)

-- the handle is removed, and a draft with it or none
abbrev pub leaving : ℕ → ℕ → Bool → List Change
leaving handle file true = ShutHandle handle ∷ EndDraft file ∷ []
leaving handle file false = ShutHandle handle ∷ []

-- a handle that reads a version is removed alone
abbrev pub left_of : Held → ℕ → Result Reads Refusal → Held
left_of h handle (Err refusal) = h
left_of h handle (Ok (reads.Draft file)) = changed_at h 0 (leaving handle file (is_some (last_draft h handle file)))
left_of h handle (Ok (reads.Version file number)) = changed_at h 0 (ShutHandle handle ∷ [])

-- the rows after the handle is removed without a new version
abbrev pub left_by : Held → ℕ → Held
left_by h handle = left_of h handle (reads_by h.handles handle)

-- the handle and the draft are removed, and the draft's content is the file's next version
abbrev pub finishing : Held → ℕ → ℕ → ℕ → List Change
finishing h handle file opened = ShutHandle handle ∷ EndDraft file ∷ Append file opened (cells_of_draft h file) ∷ []

-- the version closed by that moment, and if it has ended, it ended by then
pub record IsPast (now : ℕ) (row : VersionRow) : Type 0 where
  pub closed : row.closed ≤ now
  pub ended : IfSome row.ended (λ ended. ended ≤ now)
