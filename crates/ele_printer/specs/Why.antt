-- The text of why a version is held or due, and of the keys that will be due.
use Rattle.std.specs.Prelude.{ℕ, List, [], ◌∷◌, ◌++◌, codes, length, Result, Ok, Err}
use Rattle.std.specs.Fmt.{decimal}
use Rattle.std.specs.List.{flat_map}
use Rattle.ele_due.specs.declared.key.Key.{Key}
use Rattle.ele_output.specs.Line.{line_text}
use Rattle.ele_printer.specs.Printed.{due_line, refusal_text}
use Rattle.ele_model.specs.FateText.{fate_words}
use Rattle.ele_model.specs.declared.fate.Fate.{Fate}
use Rattle.ele_model.specs.declared.refusal.Refusal.{Refusal}

-- the text of a version's fate, or of a refusal
abbrev pub why_text : Result Fate Refusal → List ℕ
why_text (Ok fate) = line_text (codes "ok why" ∷ fate_words fate)
why_text (Err refusal) = refusal_text refusal

-- the text of keys that will be due: their number, and a line for each; or of a refusal
abbrev pub ahead_text : Result (List Key) Refusal → List ℕ
ahead_text (Ok keys) = line_text (codes "ok ahead" ∷ decimal (length keys) ∷ []) ++ flat_map due_line keys
ahead_text (Err refusal) = refusal_text refusal
