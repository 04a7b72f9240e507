-- A world with fresh numbers and the same past.
use Rattle.std.specs.Prelude.{◌≡◌, ℕ, ◌+◌, ◌-◌, min, not, Bool, List, [], ◌∷◌, length, filter, map}
use Rattle.std.specs.List.{sum_by}
use Rattle.ele_content.specs.declared.cell.Cell.{Cell}
use Rattle.ele_model.specs.declared.limits.Counts.{Counts}
use Rattle.ele_model.specs.declared.rows.DirectoryRow.{DirectoryRow}
use Rattle.ele_model.specs.declared.rows.FileRow.{FileRow}
use Rattle.ele_model.specs.declared.rows.GroupRow.{GroupRow}
use Rattle.ele_model.specs.declared.rows.NameRow.{NameRow}
use Rattle.ele_model.specs.declared.rows.Target.{Target}
use Rattle.ele_model.specs.declared.rows.Target.TheVariants.{File, Directory}
use Rattle.ele_model.specs.declared.rows.VersionRow.{VersionRow}
use Rattle.ele_model.specs.World.{World, is_held}
use Rattle.ele_renewal.specs.Numbers.{new_directory, new_file, new_version, new_writer}

-- ---- the rows

abbrev pub renewed_directory : World → DirectoryRow → DirectoryRow
renewed_directory w row = record row { id = new_directory w.directories row.id }

-- the last version has the number after all held ones before it, whether it is held or not. So it stays lost if it is: no earlier one
-- becomes the last
abbrev pub renewed_file : World → FileRow → FileRow
renewed_file w row = record row { id = new_file w.files row.id; next = new_version w.versions row.id (row.next - 1) + 1 }

abbrev pub renewed_target : World → Target → Target
renewed_target w (File file) = File (new_file w.files file)
renewed_target w (Directory directory) = Directory (new_directory w.directories directory)

abbrev pub renewed_name : World → NameRow → NameRow
renewed_name w row = record row {
  directory = new_directory w.directories row.directory;
  target = renewed_target w row.target;
}

-- the cells of a file's version, with fresh writers; the first of them is this slot
abbrev pub renewed_cells : List VersionRow → (file slot : ℕ) → List Cell → List Cell
renewed_cells rows file slot [] = []
renewed_cells rows file slot (cell ∷ cells) =
    record cell { writer = new_writer rows file slot cell.writer } ∷ renewed_cells rows file (slot + 1) cells

abbrev pub renewed_version : World → VersionRow → VersionRow
renewed_version w row = record row {
  file = new_file w.files row.file;
  number = new_version w.versions row.file row.number;
  cells = renewed_cells w.versions row.file 0 row.cells;
}

abbrev pub renewed_group : World → GroupRow → GroupRow
renewed_group w row = record row { members = map (new_file w.files) row.members }

-- ---- the counts

-- the file's last version isn't held
abbrev pub has_lost_last : World → FileRow → Bool
has_lost_last w row = not (is_held w row.id (row.next - 1))

-- as many as are held, and no more than were counted. A last version that isn't held keeps its number, so it counts
abbrev pub renewed_counts : World → Counts
renewed_counts w = record {
  files = length w.files;
  directories = length w.directories - 1;
  names = length w.names;
  versions = min (length w.versions + length (filter (has_lost_last w) w.files)) w.made.versions;
  handles = 0;
  groups = length w.groups;
  members = min (sum_by (λ row. length row.members) w.groups) w.made.members;
  marks = min (sum_by (λ row. length row.marks) w.groups) w.made.marks;
}

-- ---- the world

abbrev pub renewed : World → World
renewed w = record {
  now = w.now;
  directories = map (renewed_directory w) w.directories;
  files = map (renewed_file w) w.files;
  names = map (renewed_name w) w.names;
  versions = map (renewed_version w) w.versions;
  drafts = [];
  handles = [];
  groups = map (renewed_group w) w.groups;
  made = renewed_counts w;
  limits = w.limits;
}

-- no handle and no draft is there
pub record IsClosed (w : World) : Type 0 where
  pub handles : w.handles ≡ []
  pub drafts : w.drafts ≡ []
