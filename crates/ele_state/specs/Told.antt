-- What answers mean.
use Rattle.std.specs.Prelude.{ℕ, Result, Ok, Err}
use Rattle.ele_model.specs.declared.refusal.Refusal.{Refusal}
use Rattle.ele_model.specs.declared.rows.VersionInfo.{VersionInfo}
use Rattle.ele_model.specs.declared.rows.VersionRow.{VersionRow}
use Rattle.ele_model.specs.Told.{info_of}

-- the file and the info of the version
abbrev pub found_of : Result VersionRow Refusal → Result (ℕ × VersionInfo) Refusal
found_of (Ok row) = Ok (row.file, info_of row)
found_of (Err refusal) = Err refusal
