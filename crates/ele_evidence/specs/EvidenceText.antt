-- The text of a history that can be handed over.
use Rattle.std.specs.Prelude.{◌≡◌, ℕ, List, [], ◌∷◌, ◌++◌, codes, length}
use Rattle.std.specs.Fmt.{decimal}
use Rattle.std.specs.List.{AllZip}
use Rattle.ele_chain.specs.Chain.{chained}
use Rattle.ele_model.specs.Bounds.{Bounds}
use Rattle.ele_model.specs.declared.entry.Entry.{Entry}
use Rattle.ele_output.specs.Line.{line_text}
use Rattle.ele_printer.specs.HistoryText.{entry_line}
use Rattle.ele_printer.specs.Printed.{IsReplyText}

-- the first row: the limits of the world in which the history began
abbrev pub head_row : Bounds → List ℕ
head_row b =
    line_text (codes "ok evidence" ∷ decimal b.events ∷ decimal b.files ∷ decimal b.directories ∷ decimal b.names ∷ decimal b.versions ∷ decimal b.handles ∷ decimal b.groups
    ∷ decimal b.members ∷ decimal b.marks ∷ [])

-- the row of an entry: the line of its event, and its reply
abbrev pub IsRow : Entry → List ℕ → Type 0
IsRow entry row = (reply : List ℕ) × IsReplyText entry.reply reply × (row ≡ entry_line entry ++ reply)

-- the last line: how many entries there are
abbrev pub end_line : ℕ → List ℕ
end_line count = line_text (codes "end" ∷ decimal count ∷ [])

-- the text: the first row and the row of each entry in a chain, and the last line
pub record IsEvidence (limits : Bounds) (entries : List Entry) (text : List ℕ) : Type 0 where
  pub rows : List (List ℕ)
  pub are : AllZip IsRow entries rows
  pub is : text ≡ chained [] (head_row limits ∷ rows) ++ end_line (length entries)
