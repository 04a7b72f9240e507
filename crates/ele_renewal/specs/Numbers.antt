-- The fresh numbers of a world's rows: each is the place of its row among those that are held, by the numbers that they have.
use Rattle.std.specs.Prelude.{ℕ, ◌+◌, ◌==◌, ◌&&◌, nat_lt, Bool, false, List, length, find, filter, slice_get}
use Rattle.std.specs.Option.{option_map_or}
use Rattle.ele_content.specs.declared.cell.Cell.{Cell}
use Rattle.ele_model.specs.declared.rows.DirectoryRow.{DirectoryRow}
use Rattle.ele_model.specs.declared.rows.FileRow.{FileRow}
use Rattle.ele_model.specs.declared.rows.VersionRow.{VersionRow}
use Rattle.ele_model.specs.Tagged.{is_before}

-- how many directories have a smaller number; none is before the root, which stays 0
abbrev pub new_directory : List DirectoryRow → ℕ → ℕ
new_directory rows id = length (filter (λ row. nat_lt row.id id) rows)

-- one more than how many files have a smaller number
abbrev pub new_file : List FileRow → ℕ → ℕ
new_file rows id = length (filter (λ row. nat_lt row.id id) rows) + 1

-- one more than how many held versions of the file have a smaller number
abbrev pub new_version : List VersionRow → (file number : ℕ) → ℕ
new_version rows file number = length (filter (is_before file number) rows) + 1

-- the cell is there, and has that writer
abbrev pub is_written_by : ℕ → List Cell → ℕ → Bool
is_written_by writer cells slot = option_map_or (λ cell. cell.writer == writer) (slice_get cells slot) false

-- a version of the file whose slot has that writer
abbrev pub has_block : (file slot writer : ℕ) → VersionRow → Bool
has_block file slot writer row = (row.file == file) && is_written_by writer row.cells slot

-- the fresh number of the first held version that has the block, whether the version that wrote it is held or not. It is asked of blocks
-- that held versions have, so the case of none never occurs
abbrev pub new_writer : List VersionRow → (file slot writer : ℕ) → ℕ
new_writer rows file slot writer =
    option_map_or (λ row. new_version rows file row.number) (find (has_block file slot writer) rows) 0
