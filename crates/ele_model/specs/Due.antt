-- Which versions are due.
use Rattle.std.specs.Prelude.{ℕ, Bool, false, not, List, Option, find, filter}
use Rattle.std.specs.Option.{option_map_or}
use Rattle.ele_model.specs.declared.rows.VersionRow.{VersionRow}
use Rattle.ele_model.specs.FileView.{file_view, due_in, ripe_in}
use Rattle.ele_model.specs.World.{World, is_version}

-- the version is due at that moment, in the world as it is
unfoldable pub is_due_at : World → VersionRow → ℕ → Bool
is_due_at w row at = due_in (file_view w row.file) row at

-- the version is held, and due now
unfoldable pub is_due : World → ℕ → ℕ → Bool
is_due w file number = option_map_or (λ row. is_due_at w row w.now) (find (is_version file number) w.versions) false

-- the version's ripe moment, in the world as it is
unfoldable pub ripe_of : World → VersionRow → Option ℕ
ripe_of w row = ripe_in (file_view w row.file) row

-- the rows that aren't due
abbrev pub kept_rows : World → List VersionRow
kept_rows w = filter (λ row. not (is_due_at w row w.now)) w.versions
