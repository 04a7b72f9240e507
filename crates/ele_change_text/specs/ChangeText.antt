-- The text of what changed between two moments.
use Rattle.std.specs.Prelude.{ℕ, List, [], ◌∷◌, ◌++◌, codes, length, Result, Ok, Err}
use Rattle.std.specs.Fmt.{decimal}
use Rattle.std.specs.List.{flat_map}
use Rattle.ele_model.specs.declared.refusal.Refusal.{Refusal}
use Rattle.ele_model.specs.declared.rows.Target.{Target}
use Rattle.ele_model.specs.declared.rows.Target.TheVariants.{File, Directory}
use Rattle.ele_output.specs.Line.{line_text}
use Rattle.ele_printer.specs.Printed.{end_word, refusal_text}
use Rattle.ele_audit.specs.AuditText.{path_or_dash}
use Rattle.ele_name_paths.specs.LivePath.{names_in}
use Rattle.ele_change_paths.specs.declared.row.PathChange.{PathChange}
use Rattle.ele_changes.specs.declared.change.ChangeKind.{ChangeKind}
use Rattle.ele_change_paths.specs.declared.row.Difference.{Difference}
use Rattle.ele_changes.specs.declared.change.ChangeKind.TheVariants.{Made, Back, Linked, Renamed, Deleted, Unlinked, Saved, Forgotten}

abbrev pub kind_word : ChangeKind → List ℕ
kind_word Made = codes "made"
kind_word Back = codes "back"
kind_word Linked = codes "linked"
kind_word Renamed = codes "renamed"
kind_word Deleted = codes "deleted"
kind_word Unlinked = codes "unlinked"
kind_word Saved = codes "saved"
kind_word Forgotten = codes "forgotten"

abbrev pub target_word : Target → List ℕ
target_word (File id) = codes "file"
target_word (Directory id) = codes "directory"

abbrev pub target_number : Target → ℕ
target_number (File id) = id
target_number (Directory id) = id

-- the line of a change: its kind, the file or directory, and of each moment first the number of the version and then the path
abbrev pub change_line : PathChange → List ℕ
change_line row =
    line_text (codes "-" ∷ kind_word row.change.kind ∷ target_word row.change.target ∷ decimal (target_number row.change.target) ∷ end_word row.change.before ∷ end_word row.change.after ∷ path_or_dash (names_in row.from) ∷ path_or_dash (names_in row.to) ∷ [])

-- the text of changes: how many, and a line for each; or of the refusal
abbrev pub changes_text : Result Difference Refusal → List ℕ
changes_text (Err refusal) = refusal_text refusal
changes_text (Ok found) = line_text (codes "ok changes" ∷ decimal (length found.rows.items) ∷ []) ++ flat_map change_line found.rows.items
