-- The changes of a world, and the rows after each; each change leaves a well-formed world.
use Rattle.std.specs.Prelude.{ℕ, ◌+◌, ◌-◌, ◌==◌, ◌&&◌, not, true, false, Bool, List, [], ◌∷◌, ◌++◌, length, filter, find, Some, None, unwrap_or, if◌then◌else◌}
use Rattle.std.specs.List.{list_any}
use Rattle.std.specs.Option.{option_map_or}
use Rattle.ele_content.specs.declared.cell.Cell.{Cell}
use Rattle.ele_content.specs.Content.{content_of, cells_after_write, cells_after_truncate}
use Rattle.ele_lists.specs.Lists.{update_first, remove_first, insert_before}
use Rattle.ele_policy.specs.declared.policy.Policy.{Policy}
use Rattle.ele_model.specs.declared.rows.DirectoryRow.{DirectoryRow}
use Rattle.ele_model.specs.declared.rows.DraftRow.{DraftRow}
use Rattle.ele_model.specs.declared.rows.FileRow.{FileRow}
use Rattle.ele_model.specs.declared.rows.MarkRow.{MarkRow}
use Rattle.ele_model.specs.declared.rows.Reads.{Reads}
use Rattle.ele_model.specs.declared.rows.Target.{Target}
use Rattle.ele_model.specs.declared.rows.Target.TheVariants.{File, Directory}
use Rattle.ele_model.specs.declared.rows.VersionRow.{VersionRow}
use Rattle.ele_model.specs.FileView.{is_version_of}
use Rattle.ele_model.specs.GroupRows.{with_group, without_group, with_member, without_member, with_mark, without_mark, forgotten}
use Rattle.ele_model.specs.NameRows.{born_row, dies}
use Rattle.ele_model.specs.Walk.{is_live_name}
use Rattle.ele_model.specs.World.{World, is_directory, is_file, next_of, is_version, is_version_after, is_target_file, is_live, current_of, is_draft, has_draft, is_draft_after, is_handle}

pub data Change : Type 0 where
  Time : (to : ℕ) → Change
  SetDirectoryDefault : (directory : ℕ) → (policy : Policy) → Change
  MakeDirectory : (directory : ℕ) → (name : List ℕ) → (id : ℕ) → (policy : Policy) → Change
  EndName : (directory : ℕ) → (name : List ℕ) → Change
  AddName : (directory : ℕ) → (name : List ℕ) → (target : Target) → Change
  MoveName : (from : ℕ) → (old : List ℕ) → (to : ℕ) → (new : List ℕ) → (target : Target) → Change
  EndFileName : (directory : ℕ) → (name : List ℕ) → (file : ℕ) → Change
  Revive : (directory : ℕ) → (name : List ℕ) → (file number : ℕ) → Change
  MakeFile : (directory : ℕ) → (name : List ℕ) → (id : ℕ) → (policy : Policy) → Change
  SetFilePolicy : (file : ℕ) → (policy : Policy) → Change
  Append : (file opened : ℕ) → (cells : List Cell) → Change
  Take : (file number : ℕ) → Change
  StartDraft : (file : ℕ) → Change
  WriteDraft : (file offset : ℕ) → (bytes : List ℕ) → Change
  TruncateDraft : (file size : ℕ) → Change
  EndDraft : (file : ℕ) → Change
  OpenHandle : (number : ℕ) → (reads : Reads) → Change
  ShutHandle : (number : ℕ) → Change
  DropIdle : (file : ℕ) → Change
  MakeGroup : (name : List ℕ) → Change
  DropGroup : (name : List ℕ) → Change
  AddMember : (name : List ℕ) → (file : ℕ) → Change
  RemoveMember : (name : List ℕ) → (file : ℕ) → Change
  AddMark : (name : List ℕ) → (mark : MarkRow) → Change
  RemoveMark : (name : List ℕ) → (mark : ℕ) → Change

-- ---- directories, files and names

abbrev pub governed_by : Policy → DirectoryRow → DirectoryRow
governed_by policy row = record row { default = policy }

-- a directory, without a name yet
abbrev pub with_directory : World → ℕ → Policy → World
with_directory w id policy = record w {
  directories = w.directories ++ record { id = id; default = policy } ∷ [];
  made = record w.made { directories = id };
}

-- a file, without a version yet
abbrev pub with_file : World → ℕ → Policy → World
with_file w id policy = record w {
  files = w.files ++ record { id = id; policy = policy; next = 1 } ∷ [];
  made = record w.made { files = id };
}

-- the file with that policy, for all its versions
abbrev pub set_policy : Policy → FileRow → FileRow
set_policy policy row = record row { policy = policy }

-- the world with a name of the target, from now on
abbrev pub with_name : World → ℕ → List ℕ → Target → World
with_name w directory name target = record w {
  names = w.names ++ born_row directory name target w.now ∷ [];
  made = record w.made { names = w.made.names + 1 };
}

-- the world in which the live name dies now
abbrev pub without_name : World → ℕ → List ℕ → World
without_name w directory name = record w { names = update_first (is_live_name directory name) (dies w.now) w.names }

-- the file has no live name, no held version and no draft
abbrev pub is_idle : World → ℕ → Bool
is_idle w file = not (is_live w file) && (not (list_any (is_version_of file) w.versions) && not (has_draft w file))

-- the world without the file, its deleted names and its memberships in groups
abbrev pub without_file : World → ℕ → World
without_file w file = record w {
  files = remove_first (is_file file) w.files;
  names = filter (λ row. not (is_target_file file row.target)) w.names;
  groups = forgotten file w.groups;
}

-- ---- versions

-- the version ends then, unless it has ended
abbrev pub ended_at : ℕ → VersionRow → VersionRow
ended_at at row = record row { ended = Some (unwrap_or row.ended at) }

-- the versions, in which the one before the file's next has an end
abbrev pub with_end : World → ℕ → List VersionRow
with_end w file = update_first (is_version file (next_of w.files file - 1)) (ended_at w.now) w.versions

-- that version has an end if the file has no live name
abbrev pub ended_if_nameless : World → ℕ → World
ended_if_nameless w file = record w { versions = if is_live w file then w.versions else with_end w file }

abbrev pub numbered_on : FileRow → FileRow
numbered_on row = record row { next = row.next + 1 }

-- the file's next version, which closes now; without a live name it also ends now
abbrev pub next_version : World → ℕ → ℕ → List Cell → VersionRow
next_version w file opened cells = record {
  file = file;
  number = next_of w.files file;
  opened = opened;
  closed = w.now;
  ended = if is_live w file then None else Some w.now;
  cells = cells;
}

-- the world with that version at its place, in which the version before it has ended
abbrev pub with_version : World → ℕ → ℕ → List Cell → World
with_version w file opened cells = record w {
  files = update_first (is_file file) numbered_on w.files;
  versions = insert_before (is_version_after file (next_of w.files file)) (next_version w file opened cells) (with_end w file);
  made = record w.made { versions = w.made.versions + 1 };
}

-- the cells of the version. It is held whenever a handle reads it or a file is revived with it, so the case of no version never occurs
abbrev pub version_cells : World → ℕ → ℕ → List Cell
version_cells w file number = option_map_or (λ row. row.cells) (find (is_version file number) w.versions) []

-- ---- drafts

-- the cells of the file's current version, which is held whenever a draft begins; so the case of no version never occurs
abbrev pub current_cells : World → ℕ → List Cell
current_cells w file = option_map_or (λ row. row.cells) (current_of w file) []

-- a draft that is opened now, and begins as the current version
abbrev pub new_draft : World → ℕ → DraftRow
new_draft w file = record { file = file; opened = w.now; cells = current_cells w file; changed = false }

-- the draft with the bytes written into it, under the number of the version that it is to be
abbrev pub changed_by : ℕ → ℕ → List ℕ → DraftRow → DraftRow
changed_by number offset bytes draft = record draft { cells = cells_after_write number offset bytes draft.cells; changed = true }

-- the draft with so many bytes, under the number of the version that it is to be; a draft of that length stays
abbrev pub fitted_by : ℕ → ℕ → DraftRow → DraftRow
fitted_by number size draft =
    if length (content_of draft.cells) == size then draft
    else record draft { cells = cells_after_truncate number size draft.cells; changed = true }

-- ---- each change

abbrev pub after_change : World → Change → World
after_change w (Time to) = record w { now = to }
after_change w (SetDirectoryDefault directory policy) = record w { directories = update_first (is_directory directory) (governed_by policy) w.directories }
-- a new directory and its name
after_change w (MakeDirectory directory name id policy) = with_name (with_directory w id policy) directory name (Directory id)
-- a directory's live name dies now
after_change w (EndName directory name) = without_name w directory name
-- another name of a target that is there
after_change w (AddName directory name target) = with_name w directory name target
-- the live name dies now, and its target has another one
after_change w (MoveName from old to new target) = with_name (without_name w from old) to new target
-- a file's live name dies now, and with the last one the current version ends
after_change w (EndFileName directory name file) = ended_if_nameless (without_name w directory name) file
-- a file without a live name has one, and a new version with the cells of the version of that number
after_change w (Revive directory name file number) = with_version (with_name w directory name (File file)) file w.now (version_cells w file number)
-- a new file, its name, and its first version, which is empty
after_change w (MakeFile directory name id policy) = with_version (with_name (with_file w id policy) directory name (File id)) id w.now []
after_change w (SetFilePolicy file policy) = record w { files = update_first (is_file file) (set_policy policy) w.files }
after_change w (Append file opened cells) = with_version w file opened cells
after_change w (Take file number) = record w { versions = remove_first (is_version file number) w.versions }
after_change w (StartDraft file) = record w { drafts = insert_before (is_draft_after file) (new_draft w file) w.drafts }
after_change w (WriteDraft file offset bytes) = record w { drafts = update_first (is_draft file) (changed_by (next_of w.files file) offset bytes) w.drafts }
after_change w (TruncateDraft file size) = record w { drafts = update_first (is_draft file) (fitted_by (next_of w.files file) size) w.drafts }
after_change w (EndDraft file) = record w { drafts = remove_first (is_draft file) w.drafts }
after_change w (OpenHandle number reads) = record w {
  handles = w.handles ++ record { number = number; reads = reads } ∷ [];
  made = record w.made { handles = number };
}
after_change w (ShutHandle number) = record w { handles = remove_first (is_handle number) w.handles }
-- the file is dropped if it has no live name, no held version and no draft
after_change w (DropIdle file) = if is_idle w file then without_file w file else w
after_change w (MakeGroup name) = record w { groups = with_group name w.groups; made = record w.made { groups = w.made.groups + 1 } }
after_change w (DropGroup name) = record w { groups = without_group name w.groups }
after_change w (AddMember name file) = record w {
  groups = with_member name file w.groups;
  made = record w.made { members = w.made.members + 1 };
}
after_change w (RemoveMember name file) = record w { groups = without_member name file w.groups }
after_change w (AddMark name mark) = record w { groups = with_mark name mark w.groups; made = record w.made { marks = w.made.marks + 1 } }
after_change w (RemoveMark name mark) = record w { groups = without_mark name mark w.groups }

-- one after the other
abbrev pub after_changes : World → List Change → World
after_changes w [] = w
after_changes w (change ∷ changes) = after_changes (after_change w change) changes
