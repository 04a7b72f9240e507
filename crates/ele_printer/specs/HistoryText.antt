-- The text of histories.
use Rattle.std.specs.Prelude.{ℕ, List, [], ◌∷◌, ◌++◌, length, codes}
use Rattle.std.specs.Fmt.{decimal}
use Rattle.std.specs.List.{flat_map}
use Rattle.ele_model.specs.declared.entry.Entry.{Entry}
use Rattle.ele_commands.specs.EventText.{event_words}
use Rattle.ele_output.specs.Line.{line_text}

-- the line of an entry: its event
abbrev pub entry_line : Entry → List ℕ
entry_line entry = line_text (codes "-" ∷ event_words entry.event)

-- the text of a history: the number of entries that were folded and of those that are stored, and a line for each stored entry
abbrev pub history_text : ℕ → List Entry → List ℕ
history_text folded entries =
    line_text (codes "ok history" ∷ decimal folded ∷ decimal (length entries) ∷ []) ++ flat_map entry_line entries

-- the text of a trim: the number of entries that it folded
abbrev pub trimmed_text : ℕ → List ℕ
trimmed_text count = line_text (codes "ok trimmed" ∷ decimal count ∷ [])
