-- The rows of all files, and how they change.
use Rattle.std.specs.Prelude.{◌≡◌, ℕ, ◌+◌, ◌==◌, Bool, false, not, ◌&&◌, List, [], ◌∷◌, length, find, if◌then◌else◌}
use Rattle.std.specs.List.{list_any}
use Rattle.std.specs.Option.{option_map_or}
use Rattle.ele_policy.specs.declared.policy.Policy.{Policy}
use Rattle.ele_content.specs.declared.cell.Cell.{Cell}
use Rattle.ele_content.specs.Content.{content_of}
use Rattle.ele_model.specs.declared.rows.FileRow.{FileRow}
use Rattle.ele_model.specs.declared.rows.VersionRow.{VersionRow}
use Rattle.ele_model.specs.declared.rows.DraftRow.{DraftRow}
use Rattle.ele_model.specs.declared.rows.HandleRow.{HandleRow}
use Rattle.ele_model.specs.declared.rows.Reads.TheVariants as reads
use Rattle.ele_model.specs.Bounds.{largest_bounds}
use Rattle.ele_lists.specs.Lists.{remove_first}
use Rattle.ele_model.specs.Change.{Change, MakeFile, OpenHandle, StartDraft, Take, new_draft, with_end, after_changes}
use Rattle.ele_model.specs.FileView.{is_version_of}
use Rattle.ele_model.specs.World.{World, fresh_world, is_file, is_live, is_version, is_draft}

-- files by id, versions by file and number, drafts by file, handles by number, and how many handles were ever opened
pub record Held : Type 0 where
  pub files : List FileRow
  pub versions : List VersionRow
  pub drafts : List DraftRow
  pub handles : List HandleRow
  pub opened : ℕ

-- the rows of a world that the files hold
abbrev pub rows_of : World → Held
rows_of w = record { files = w.files; versions = w.versions; drafts = w.drafts; handles = w.handles; opened = w.made.handles }

-- the world with these rows in their place
abbrev pub with_rows : World → Held → World
with_rows w h = record w {
  files = h.files;
  versions = h.versions;
  drafts = h.drafts;
  handles = h.handles;
  made = record w.made { handles = h.opened };
}

-- the rows after the changes in that world
abbrev pub rows_after : World → Held → List Change → Held
rows_after w h changes = rows_of (after_changes (with_rows w h) changes)

-- a world with these rows and no others, at that moment
abbrev pub world_with : Held → ℕ → World
world_with h now = with_rows (record (fresh_world largest_bounds) { now = now }) h

-- the rows after the changes, if only the moment matters
abbrev pub changed_at : Held → ℕ → List Change → Held
changed_at h now changes = rows_of (after_changes (world_with h now) changes)

-- the rows after the changes, in every world of that moment with these rows in which the file is live or not, as `live` says
abbrev pub Became : Held → ℕ → ℕ → Bool → List Change → Held → Type 0
Became h now file live changes after = (w : World) → w.now ≡ now → is_live w file ≡ live → after ≡ rows_after w h changes

-- the rows after a file was made by any name, in any world of that moment
abbrev pub GotFile : Held → ℕ → Policy → ℕ → Held → Type 0
GotFile h id policy now after =
    (w : World) (directory : ℕ) (name : List ℕ) → w.now ≡ now → after ≡ rows_after w h (MakeFile directory name id policy ∷ [])

abbrev pub first_draft : Held → ℕ → ℕ → DraftRow
first_draft h file now = new_draft (world_with h now) file

-- the rows with another handle, which writes the file's draft, or else a new one
abbrev pub opened_by : Held → ℕ → ℕ → Held
opened_by h file now =
    let number = h.opened + 1 in
    changed_at h now (if list_any (is_draft file) h.drafts then OpenHandle number (reads.Draft file) ∷ [] else StartDraft file ∷ OpenHandle number (reads.Draft file) ∷ [])

-- whether the file's draft has so many bytes
abbrev pub has_length : Held → ℕ → ℕ → Bool
has_length h file size = option_map_or (λ row. length (content_of row.cells) == size) (find (is_draft file) h.drafts) false

-- the cells of the file's draft
abbrev pub cells_of_draft : Held → ℕ → List Cell
cells_of_draft h file = option_map_or (λ row. row.cells) (find (is_draft file) h.drafts) []

-- the rows without the version
abbrev pub without : Held → ℕ → ℕ → Held
without h file number = changed_at h 0 (Take file number ∷ [])

-- the cells of a version
abbrev pub cells_of_version : Held → ℕ → ℕ → List Cell
cells_of_version h file number = option_map_or (λ row. row.cells) (find (is_version file number) h.versions) []

-- the rows, in which the version before the file's next one has ended, then or before
abbrev pub current_ended : Held → ℕ → ℕ → Held
current_ended h file now = record h { versions = with_end (world_with h now) file }

-- the file has neither a held version nor a draft
abbrev pub is_bare : Held → ℕ → Bool
is_bare h file = not (list_any (is_version_of file) h.versions) && not (list_any (is_draft file) h.drafts)

-- the rows without the file's row
abbrev pub without_file : Held → ℕ → Held
without_file h file = record h { files = remove_first (is_file file) h.files }
