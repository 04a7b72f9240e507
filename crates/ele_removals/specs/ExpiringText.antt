-- The text of versions that will be due, with their names.
use Rattle.std.specs.Prelude.{ℕ, List, [], ◌∷◌, ◌++◌, codes, length, Result, Ok, Err}
use Rattle.std.specs.Fmt.{decimal}
use Rattle.std.specs.List.{flat_map}
use Rattle.ele_audit.specs.AuditText.{path_or_dash}
use Rattle.ele_model.specs.declared.refusal.Refusal.{Refusal}
use Rattle.ele_output.specs.Line.{line_text}
use Rattle.ele_printer.specs.Printed.{end_word, key_words, refusal_text}
use Rattle.ele_removals.specs.RemovalText.{name_death, name_path}
use Rattle.ele_removals.specs.declared.expiry.Expiries.{Expiries}
use Rattle.ele_removals.specs.declared.expiry.Expiry.{Expiry}

-- the line of a version that will be due: since when, its file and number, the path and until when it led there
abbrev pub expiry_line : Expiry → List ℕ
expiry_line row =
    line_text (codes "-" ∷ key_words row.key ++ path_or_dash (name_path row.name) ∷ end_word (name_death row.name) ∷ [])

-- the text of versions that will be due: their number, and a line for each; or of a refusal
abbrev pub expiring_text : Result Expiries Refusal → List ℕ
expiring_text (Ok found) =
    line_text (codes "ok expiring" ∷ decimal (length found.rows.items) ∷ []) ++ flat_map expiry_line found.rows.items
expiring_text (Err refusal) = refusal_text refusal
