-- Ripe moments and due rows by number, for the layers that keep an index. No reader of the core needs them.
use Rattle.std.specs.Prelude.{ℕ, ◌==◌, Bool, List, Option, filter, find, option_and_then}
use Rattle.ele_model.specs.declared.rows.VersionRow.{VersionRow}
use Rattle.ele_model.specs.World.{World}
use Rattle.ele_model.specs.FileView.{FileView, ripe_in, file_view}
use Rattle.ele_model.specs.Due.{is_due_at}

abbrev pub is_numbered : ℕ → VersionRow → Bool
is_numbered number row = row.number == number

-- the ripe moment of the version with the number, if the version is held
unfoldable pub ripe_numbered : FileView → ℕ → Option ℕ
ripe_numbered v number = option_and_then (ripe_in v) (find (is_numbered number) v.rows)

-- the ripe moment of the file's version with that number, if it is held and has one
abbrev pub ripe_at : World → ℕ → ℕ → Option ℕ
ripe_at w file number = ripe_numbered (file_view w file) number

-- the rows that are due
abbrev pub due_rows : World → List VersionRow
due_rows w = filter (λ row. is_due_at w row w.now) w.versions
