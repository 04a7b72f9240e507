-- The row of a file's log that a tag means. No public clause cites this module.
use Rattle.std.specs.Prelude.{ℕ, ◌-◌, ◌&&◌, nat_lt, Option, Result, Ok, Err, find, if◌then◌else◌}
use Rattle.std.specs.Option.{option_map, option_map_or}
use Rattle.ele_files.specs.declared.file.File.{File}
use Rattle.ele_inode_log.specs.declared.row.VersionRow as log
use Rattle.ele_inode_log.specs.Rows.{has_number, is_before, has_closed_by, lives_at}
use Rattle.ele_lists.specs.Last.{last_passing}
use Rattle.ele_path.specs.declared.tagged.Tag.{Tag}
use Rattle.ele_path.specs.declared.tagged.Tag.TheVariants as tag
use Rattle.ele_model.specs.declared.refusal.Refusal.{Refusal}
use Rattle.ele_model.specs.declared.refusal.Refusal.TheVariants.{Forgotten, NoVersion}
use Rattle.ele_model.specs.declared.rows.VersionInfo.{VersionInfo}

-- the row's number, its moments, and its length in bytes
abbrev pub stamps_in : log.VersionRow → VersionInfo
stamps_in row = record {
  number = row.number;
  opened = row.opened;
  closed = row.closed;
  ended = row.ended;
  length = row.cells.size;
}

-- the row's info, or if there is no row, the last held number before it
abbrev pub told_or_forgotten : Option log.VersionRow → Option log.VersionRow → Result VersionInfo Refusal
told_or_forgotten found before =
    option_map_or (λ row. Ok (stamps_in row)) found (Err (Forgotten (option_map (λ row. row.number) before)))

abbrev pub row_numbered : File → ℕ → Result VersionInfo Refusal
row_numbered f number =
    told_or_forgotten (find (has_number number) f.log.rows) (last_passing (is_before number) f.log.rows)

abbrev pub row_living : File → ℕ → Result VersionInfo Refusal
row_living f moment =
    told_or_forgotten (find (lives_at moment) f.log.rows) (last_passing (has_closed_by moment) f.log.rows)

abbrev pub row_meant : File → Tag → Result VersionInfo Refusal
row_meant f tag.Now = row_numbered f (f.next - 1)
row_meant f (tag.At moment) = row_living f moment
row_meant f (tag.Number number) =
    if nat_lt 0 number && nat_lt number f.next then row_numbered f number else Err NoVersion
