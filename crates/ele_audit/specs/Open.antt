-- The open handles of a history.
use Rattle.std.specs.Prelude.{◌≡◌, ℕ, ◌==◌, Bool, false, List, [], ◌∷◌, Option, None, Some, find, if◌then◌else◌}
use Rattle.std.specs.Option.{option_map}
use Rattle.ele_history.specs.Past.{Past, world_of}
use Rattle.ele_model.specs.declared.entry.Entry.{Entry}
use Rattle.ele_model.specs.declared.reply.Reply.{Reply}
use Rattle.ele_model.specs.declared.reply.Reply.TheVariants as reply
use Rattle.ele_model.specs.declared.rows.HandleRow.{HandleRow}
use Rattle.ele_model.specs.declared.rows.Reads.{Reads}
use Rattle.ele_model.specs.declared.rows.Reads.TheVariants.{Draft, Version}
use Rattle.ele_model.specs.declared.rows.Target.TheVariants.{File}
use Rattle.ele_model.specs.Step.{step}
use Rattle.ele_model.specs.World.{World, is_draft}
use Rattle.std.specs.List.{AllZip}
use Rattle.ele_name_paths.specs.LivePath.{live_path, names_in}
use Rattle.ele_audit.specs.declared.row.OpenHandle.{OpenHandle}

-- the reply is the handle with that number
abbrev pub opens : ℕ → Reply → Bool
opens number (reply.Handle handle) = handle == number
opens number reply = false

-- the moment of the first of the entries from this world on that opened the handle; none if none of them did
abbrev pub opened_at : ℕ → World → List Entry → Option ℕ
opened_at number w [] = None
opened_at number w (entry ∷ entries) =
    if opens number entry.reply then Some w.now else opened_at number ((step w entry.event).1) entries

-- the file that is read
abbrev pub file_of : Reads → ℕ
file_of (Draft file) = file
file_of (Version file number) = file

-- since when the handle with that number has been open: that of a writer is when the draft was opened; that of a reader is when the handle was
-- opened, or none if that entry was folded
abbrev pub since_of : Past → ℕ → Reads → Option ℕ
since_of past number (Draft file) = option_map (λ draft. draft.opened) (find (is_draft file) (world_of past).drafts)
since_of past number (Version file version) = opened_at number past.base past.entries

-- the handle, since when it has been open, and the path that leads to its file now
pub record IsOpen (past : Past) (row : HandleRow) (handle : OpenHandle) : Type 0 where
  pub is : handle.row ≡ row
  pub since : handle.since ≡ since_of past row.number row.reads
  pub path : names_in handle.path ≡ live_path (world_of past).names (File (file_of row.reads))

-- these are the open handles, in order
abbrev pub AreOpen : Past → List OpenHandle → Type 0
AreOpen past handles = AllZip (IsOpen past) (world_of past).handles handles
