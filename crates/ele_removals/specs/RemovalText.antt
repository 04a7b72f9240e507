-- The text of removed versions with their names.
use Rattle.std.specs.Prelude.{ℕ, List, [], ◌∷◌, ◌++◌, codes, length, Option}
use Rattle.std.specs.Fmt.{decimal}
use Rattle.std.specs.List.{flat_map}
use Rattle.std.specs.Option.{option_and_then}
use Rattle.ele_audit.specs.AuditText.{path_or_dash}
use Rattle.ele_name_paths.specs.LivePath.{names_in}
use Rattle.ele_audit.specs.HoldText.{hold_words}
use Rattle.ele_audit.specs.StoryText.{fate_or_dash}
use Rattle.ele_audit.specs.declared.story_row.NameStory.{NameStory}
use Rattle.ele_output.specs.Line.{line_text}
use Rattle.ele_printer.specs.Printed.{end_word}
use Rattle.ele_removals.specs.declared.removal.Removal.{Removal}

-- the path of a name, if there is a name
abbrev pub name_path : Option NameStory → Option (List (List ℕ))
name_path name = option_and_then (λ name. names_in name.path) name

-- and when it ended, if it did
abbrev pub name_death : Option NameStory → Option ℕ
name_death name = option_and_then (λ name. name.death) name

-- the line of a removed version: when it was removed, its file and number, the path and until when it led there, the mark that held the
-- version, and what had become of it
abbrev pub removal_line : Removal → List ℕ
removal_line row =
    line_text (codes "-" ∷ end_word row.version.removed ∷ decimal row.file ∷ decimal row.version.number ∷ path_or_dash (name_path row.name) ∷ end_word (name_death row.name) ∷ hold_words row.version.hold ++ fate_or_dash row.version.fate)

-- the text of removed versions: how many entries were folded, how many rows there are, and a line for each
abbrev pub removals_text : ℕ → List Removal → List ℕ
removals_text folded rows =
    line_text (codes "ok removals" ∷ decimal folded ∷ decimal (length rows) ∷ []) ++ flat_map removal_line rows
