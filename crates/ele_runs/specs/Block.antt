-- The block of one line: the answer that is written for it.
use Rattle.std.specs.Prelude.{ℕ, Bool, List, [], ◌∷◌, Option, Some, None}
use Rattle.ele_history.specs.Past.{Past}
use Rattle.ele_printer.specs.Printed.{bad_text}
use Rattle.ele_printer.specs.declared.fault.LineFault.TheVariants.{Syntax, LineTooLong}
use Rattle.ele_runs.specs.Kept.{Recorded, last_reply}
use Rattle.ele_runs.specs.Said.{IsText, MayAnswer}
use Rattle.ele_runs.specs.declared.said.Said.{Said}

-- the text of an answer, with the history after it
abbrev pub IsTextIn : Past → Said → List ℕ → Type 0
IsTextIn past said text = IsText (last_reply past) past.folded past.entries said text

-- the block of a line as it is kept, in a run that explains or in another
abbrev pub IsBlock : Bool → Past → Option (List ℕ) → List ℕ → Past → Type 0
IsBlock explains before line block after =
    (said : Said) × MayAnswer explains (Recorded before) line said (Recorded after) × IsTextIn after said block

-- the block of a last line without its line feed; it is never run
abbrev pub cut_block : Option (List ℕ) → List ℕ
cut_block None = bad_text LineTooLong
cut_block (Some []) = []
cut_block (Some (byte ∷ bytes)) = bad_text Syntax

-- a last line counts unless it is empty
abbrev pub cut_count : Option (List ℕ) → ℕ
cut_count None = 1
cut_count (Some []) = 0
cut_count (Some (byte ∷ bytes)) = 1
