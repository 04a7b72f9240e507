-- The drafts and handles of all files, and how they are found.
use Rattle.std.specs.Prelude.{ℕ, ◌==◌, nat_lt, Bool, List, Option, Some, None, find}
use Rattle.std.specs.Result.{result_ok}
use Rattle.ele_blocks.specs.Layout.{Layout}
use Rattle.ele_model.specs.World.{file_by}
use Rattle.ele_model.specs.declared.rows.HandleRow.{HandleRow}

-- a file's unsaved content: the number of its version, when the draft was opened, its map, and whether it was changed
pub record Draft : Type 0 where
  pub file : ℕ
  pub number : ℕ
  pub opened : ℕ
  pub layout : Layout
  pub changed : Bool

-- the drafts by file id, the open handles by number, and how many handles were ever opened
pub record AllSessions : Type 0 where
  pub drafts : List Draft
  pub handles : List HandleRow
  pub opened : ℕ

abbrev pub is_draft : ℕ → Draft → Bool
is_draft file draft = draft.file == file

-- the draft's file has a greater id
abbrev pub is_draft_after : ℕ → Draft → Bool
is_draft_after file draft = nat_lt file draft.file

-- the file that the handle writes, if it writes one
abbrev pub handle_file : List HandleRow → ℕ → Option ℕ
handle_file handles number = result_ok (file_by handles number)

-- the draft of the file
abbrev pub draft_of : AllSessions → ℕ → Option Draft
draft_of s file = find (is_draft file) s.drafts

abbrev pub draft_for : AllSessions → Option ℕ → Option Draft
draft_for s None = None
draft_for s (Some file) = draft_of s file

-- the draft that the handle writes
abbrev pub draft_by : AllSessions → ℕ → Option Draft
draft_by s number = draft_for s (handle_file s.handles number)
