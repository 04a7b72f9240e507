-- The drafts and handles in the fields. No public clause cites this module.
use Rattle.std.specs.Prelude.{◌≡◌, ℕ, List, Some, None, map, length}
use Rattle.std.specs.List.{position}
use Rattle.std.specs.Option.{unwrap_or}
use Rattle.ele_lists.specs.Keys.{stands_by, is_behind}
use Rattle.ele_sessions.specs.declared.draft.Draft.{Draft as Fields}
use Rattle.ele_sessions.specs.declared.entries.Entry.{Entry}
use Rattle.ele_sessions.specs.Sessions.{Draft}
use Rattle.ele_model.specs.declared.rows.HandleRow.{HandleRow}

-- the file's draft, with its fields
abbrev pub draft_with : ℕ → Fields → Draft
draft_with file fields = record {
  file = file;
  number = fields.number;
  opened = fields.opened;
  layout = fields.map;
  changed = fields.changed;
}

abbrev pub draft_in : Entry → Draft
draft_in entry = draft_with entry.file entry.draft.value

abbrev pub drafts_of : List Entry → List Draft
drafts_of entries = map draft_in entries

abbrev pub file_in : Entry → ℕ
file_in entry = entry.file

abbrev pub number_in : HandleRow → ℕ
number_in handle = handle.number

-- the first element of this key is at the place
abbrev pub IsAt : {X : Type 0} → (X → ℕ) → ℕ → List X → ℕ → Type 0
IsAt key this xs i = position (stands_by key this) xs ≡ Some i

-- no element has this key, and one would be inserted at that place
pub record IsGap {X : Type 0} (key : X → ℕ) (this : ℕ) (xs : List X) (i : ℕ) : Type 0 where
  pub missing : position (stands_by key this) xs ≡ None
  pub gap : unwrap_or (position (is_behind key this) xs) (length xs) ≡ i
