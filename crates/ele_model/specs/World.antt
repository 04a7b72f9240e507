-- The world, and how its rows are found.
use Rattle.std.specs.Prelude.{ℕ, ◌-◌, ◌==◌, nat_lt, Bool, false, ◌&&◌, ◌||◌, List, [], ◌∷◌, Option, is_none, find, Result, Ok, Err}
use Rattle.std.specs.List.{list_any}
use Rattle.std.specs.Option.{option_map, option_map_or}
use Rattle.ele_policy.specs.declared.policy.Policy.{Policy}
use Rattle.ele_policy.specs.declared.policy.Policy.TheVariants.{Safe}
use Rattle.ele_model.specs.Bounds.{Bounds}
use Rattle.ele_model.specs.declared.flat.Flat.{Flat}
use Rattle.ele_model.specs.declared.refusal.Refusal.{Refusal}
use Rattle.ele_model.specs.declared.refusal.Refusal.TheVariants.{NoHandle, NotWriter}
use Rattle.ele_model.specs.declared.rows.DirectoryRow.{DirectoryRow}
use Rattle.ele_model.specs.declared.rows.FileRow.{FileRow}
use Rattle.ele_model.specs.declared.rows.NameRow.{NameRow}
use Rattle.ele_model.specs.declared.rows.Target.{Target}
use Rattle.ele_model.specs.declared.rows.Target.TheVariants.{File, Directory}
use Rattle.ele_model.specs.declared.rows.VersionRow.{VersionRow}
use Rattle.ele_model.specs.declared.rows.DraftRow.{DraftRow}
use Rattle.ele_model.specs.declared.rows.HandleRow.{HandleRow}
use Rattle.ele_model.specs.declared.rows.Reads.{Reads}
use Rattle.ele_model.specs.declared.rows.Reads.TheVariants.{Draft, Version}

-- all rows and counts, seen as plain lists and numbers
abbrev pub World : Type 0
World = Flat

-- the root's number
abbrev pub root : ℕ
root = 0

-- the first world has only the root, whose files are kept safe for a day, with no floor
abbrev pub fresh_world : Bounds → World
fresh_world limits = record {
  now = 0;
  directories = record { id = root; default = Safe 86400 0 } ∷ [];
  files = [];
  names = [];
  versions = [];
  drafts = [];
  handles = [];
  groups = [];
  made = record { files = 0; directories = 0; names = 0; versions = 0; handles = 0; groups = 0; members = 0; marks = 0 };
  limits = limits;
}

abbrev pub is_directory : ℕ → DirectoryRow → Bool
is_directory id row = row.id == id

-- the default policy of the directory; in a well-formed world the directory is always there, so the case of none never occurs
abbrev pub default_of : List DirectoryRow → ℕ → Policy
default_of rows id = option_map_or (λ row. row.default) (find (is_directory id) rows) (Safe 86400 0)

abbrev pub is_file : ℕ → FileRow → Bool
is_file id row = row.id == id

abbrev pub policy_of : List FileRow → ℕ → Option Policy
policy_of rows id = option_map (λ row. row.policy) (find (is_file id) rows)

-- the policy that governs the file; the case of no file never occurs either
abbrev pub policy_for : List FileRow → ℕ → Policy
policy_for rows id = option_map_or (λ row. row.policy) (find (is_file id) rows) (Safe 86400 0)

-- the number that the file's next version gets, or 0 if there is no such file, and no path leads to one
abbrev pub next_of : List FileRow → ℕ → ℕ
next_of rows id = option_map_or (λ row. row.next) (find (is_file id) rows) 0

abbrev pub is_version : ℕ → ℕ → VersionRow → Bool
is_version file number row = (row.file == file) && (row.number == number)

-- the version is held: its row is in the list
abbrev pub is_held : World → ℕ → ℕ → Bool
is_held w file number = list_any (is_version file number) w.versions

abbrev pub is_target_file : ℕ → Target → Bool
is_target_file id (File file) = file == id
is_target_file id (Directory directory) = false

-- a name of the file that has no death
abbrev pub is_live_name_of : ℕ → NameRow → Bool
is_live_name_of id row = is_target_file id row.target && is_none row.death

-- the file is live: some name of it has no death
abbrev pub is_live : World → ℕ → Bool
is_live w id = list_any (is_live_name_of id) w.names

-- the row of the version before the next one: for a live file its current version
abbrev pub current_of : World → ℕ → Option VersionRow
current_of w file = find (is_version file (next_of w.files file - 1)) w.versions

abbrev pub is_draft : ℕ → DraftRow → Bool
is_draft file row = row.file == file

abbrev pub has_draft : World → ℕ → Bool
has_draft w file = list_any (is_draft file) w.drafts

abbrev pub is_handle : ℕ → HandleRow → Bool
is_handle number row = row.number == number

-- the handle that reads this writes the file
abbrev pub writes : ℕ → Reads → Bool
writes file (Draft written) = written == file
writes file (Version read number) = false

abbrev pub is_writer : ℕ → HandleRow → Bool
is_writer file row = writes file row.reads

-- the handle that reads this reads the file's version with that number
abbrev pub reads_version : ℕ → ℕ → Reads → Bool
reads_version file number (Draft written) = false
reads_version file number (Version read other) = (read == file) && (other == number)

-- the version is open: some handle reads it
abbrev pub is_open : List HandleRow → ℕ → ℕ → Bool
is_open rows file number = list_any (λ row. reads_version file number row.reads) rows

-- what the handle reads, or why it reads nothing
abbrev pub reads_by : List HandleRow → ℕ → Result Reads Refusal
reads_by rows number = option_map_or (λ row. Ok row.reads) (find (is_handle number) rows) (Err NoHandle)

-- the file that the handle writes, or why it writes none
abbrev pub file_written : Result Reads Refusal → Result ℕ Refusal
file_written (Err refusal) = Err refusal
file_written (Ok (Draft file)) = Ok file
file_written (Ok (Version file number)) = Err NotWriter

-- the file that the handle with the number writes, or why there is none
abbrev pub file_by : List HandleRow → ℕ → Result ℕ Refusal
file_by rows number = file_written (reads_by rows number)

-- the version is ordered after: its file's number is greater, or the file is the same and its own number is
abbrev pub is_version_after : ℕ → ℕ → VersionRow → Bool
is_version_after file number row = nat_lt file row.file || ((row.file == file) && nat_lt number row.number)

abbrev pub is_draft_after : ℕ → DraftRow → Bool
is_draft_after file row = nat_lt file row.file
