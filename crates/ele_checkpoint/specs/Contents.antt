-- Rows of versions and drafts: their bytes.
use Rattle.std.specs.Prelude.{ℕ, ◌==◌, List, [], ◌∷◌, ◌++◌, length, reverse, find, Option, Some, None, if◌then◌else◌}
use Rattle.std.specs.Option.{option_map_or}
use Rattle.ele_content.specs.declared.cell.Cell.{Cell}
use Rattle.ele_model.specs.declared.rows.VersionRow.{VersionRow}
use Rattle.ele_model.specs.declared.rows.DraftRow.{DraftRow}
use Rattle.ele_checkpoint.specs.Number.{number_text}
use Rattle.ele_checkpoint.specs.Lists.{list_text}
use Rattle.ele_checkpoint.specs.Values.{maybe_text, truth_text}
use Rattle.ele_checkpoint.specs.Cells.{content_text}

-- the content beside which a version of the file is told: that of the row before, if it is of the same file
abbrev pub base_after : Option VersionRow → ℕ → List Cell
base_after None file = []
base_after (Some row) file = if row.file == file then row.cells else []

abbrev pub version_text : Option VersionRow → VersionRow → List ℕ
version_text before row = number_text row.file ++ number_text row.number ++ number_text row.opened ++ number_text row.closed ++ maybe_text row.ended ++ content_text (base_after before row.file) row.cells

-- each version after the one before it
abbrev pub each_version : Option VersionRow → List VersionRow → List ℕ
each_version before [] = []
each_version before (row ∷ rows) = version_text before row ++ each_version (Some row) rows

abbrev pub versions_text : List VersionRow → List ℕ
versions_text rows = number_text (length rows) ++ each_version None rows

-- the content beside which a draft of the file is told: that of the file's last version
abbrev pub base_of : List VersionRow → ℕ → List Cell
base_of rows file = option_map_or (λ row. row.cells) (find (λ row. row.file == file) (reverse rows)) []

abbrev pub draft_text : List VersionRow → DraftRow → List ℕ
draft_text rows row = number_text row.file ++ number_text row.opened ++ truth_text row.changed ++ content_text (base_of rows row.file) row.cells

abbrev pub drafts_text : List VersionRow → List DraftRow → List ℕ
drafts_text rows made = list_text (draft_text rows) made
