-- The text of the story of a file.
use Rattle.std.specs.Prelude.{ℕ, ◌+◌, List, [], ◌∷◌, ◌++◌, codes, length, Option, Some, None, Result, Ok, Err}
use Rattle.std.specs.Fmt.{decimal}
use Rattle.std.specs.List.{flat_map}
use Rattle.ele_model.specs.FateText.{fate_words}
use Rattle.ele_model.specs.declared.fate.Fate.{Fate}
use Rattle.ele_model.specs.declared.refusal.Refusal.{Refusal}
use Rattle.ele_model.specs.declared.rows.VersionInfo.{VersionInfo}
use Rattle.ele_output.specs.Line.{line_text}
use Rattle.ele_printer.specs.Printed.{end_word, refusal_text}
use Rattle.ele_audit.specs.AuditText.{path_or_dash}
use Rattle.ele_audit.specs.HoldText.{hold_words}
use Rattle.ele_name_paths.specs.LivePath.{names_in}
use Rattle.ele_audit.specs.declared.story_row.NameStory.{NameStory}
use Rattle.ele_audit.specs.declared.story_row.Story.{Story}
use Rattle.ele_audit.specs.declared.story_row.VersionStory.{VersionStory}

-- the words of a version: when it closed and ended, and its length; a dash for each if none is known
abbrev pub info_words : Option VersionInfo → List (List ℕ)
info_words None = codes "-" ∷ codes "-" ∷ codes "-" ∷ []
info_words (Some info) = decimal info.closed ∷ end_word info.ended ∷ decimal info.length ∷ []

-- the words of a fate, or a dash for none
abbrev pub fate_or_dash : Option Fate → List (List ℕ)
fate_or_dash None = codes "-" ∷ []
fate_or_dash (Some fate) = fate_words fate

-- the words of the removal of a version, none if it is held
abbrev pub removed_words : Option ℕ → List (List ℕ)
removed_words None = []
removed_words (Some moment) = codes "removed" ∷ decimal moment ∷ []

-- the line of a version; a removed one has its removal, and then what had become of it
abbrev pub version_story_line : VersionStory → List ℕ
version_story_line row = line_text (codes "- version" ∷ decimal row.number ∷ info_words row.info ++ (removed_words row.removed ++ (hold_words row.hold ++ fate_or_dash row.fate)))

-- the line of a name: from when until when it lived, and its path
abbrev pub name_story_line : NameStory → List ℕ
name_story_line name = line_text (codes "- name" ∷ decimal name.birth ∷ end_word name.death ∷ path_or_dash (names_in name.path) ∷ [])

-- the text of a story: its file, how many lines there are, and a line for each version and then for each name; or of the refusal
abbrev pub story_text : Result Story Refusal → List ℕ
story_text (Err refusal) = refusal_text refusal
story_text (Ok story) =
    line_text (codes "ok story" ∷ decimal story.file ∷ decimal (length story.versions.items + length story.names.items) ∷ [])
    ++ (flat_map version_story_line story.versions.items ++ flat_map name_story_line story.names.items)
