-- A whole world: its bytes.
use Rattle.std.specs.Prelude.{ℕ, List, ◌++◌}
use Rattle.ele_model.specs.declared.flat.Flat.{Flat}
use Rattle.ele_model.specs.declared.limits.Counts.{Counts}
use Rattle.ele_model.specs.Bounds.{Bounds}
use Rattle.ele_checkpoint.specs.Number.{number_text}
use Rattle.ele_checkpoint.specs.Lists.{list_text}
use Rattle.ele_checkpoint.specs.Rows.{directory_text, file_text, name_text, handle_text, group_text}
use Rattle.ele_checkpoint.specs.Contents.{versions_text, drafts_text}

-- three numbers
abbrev pub three_text : ℕ → ℕ → ℕ → List ℕ
three_text a b c = number_text a ++ number_text b ++ number_text c

abbrev pub counts_text : Counts → List ℕ
counts_text made = three_text made.files made.directories made.names ++ three_text made.versions made.handles made.groups ++ number_text made.members ++ number_text made.marks

abbrev pub limits_text : Bounds → List ℕ
limits_text most = three_text most.events most.files most.directories ++ three_text most.names most.versions most.handles ++ three_text most.groups most.members most.marks

-- all rows and numbers of a world, in the order of its fields
abbrev pub whole_text : Flat → List ℕ
whole_text flat =
    number_text flat.now ++ list_text directory_text flat.directories ++ list_text file_text flat.files ++ list_text name_text flat.names
    ++ versions_text flat.versions ++ drafts_text flat.versions flat.drafts ++ list_text handle_text flat.handles ++ list_text group_text flat.groups
    ++ counts_text flat.made ++ limits_text flat.limits
