-- The report of a storm.
use Rattle.std.proofs.Common.{◌≡◌, ℕ, Bool, List, [], ◌∷◌, ◌++◌, Option, Some, None, ap, append_assoc, sym}
use Rattle.std.specs.Prelude.{codes, decimal}
use Rattle.ele_run_options.specs.declared.fault.ShellFault.{ShellFault}
use Rattle.ele_run_options.specs.declared.fault.ShellFault.TheVariants.{ReadFault, WriteFault, TooManyLines, NoMemory}
use Rattle.ele_words.specs.Ends.{HasWritten}
use Rattle.ele_words.specs.Storms.{HasPutLine, audit_word, storm_line}

-- the line, piece after piece
pub line_is : (events : ℕ) (equal : Bool) → codes "storm events " ++ (decimal events ++ (codes " audit " ++ (audit_word equal ++ codes "\n"))) ≡ storm_line events equal
line_is events equal =
    ap (λ (rest : List ℕ). codes "storm events " ++ rest) (sym (append_assoc (decimal events) (codes " audit " ++ audit_word equal) (10 ∷ [])))

-- its text was written
pub as_told : (line : List ℕ) (old new : Option (List ℕ)) (fault : Option ShellFault) → HasWritten line old new fault → HasPutLine line old new fault
as_told line old new None is = is
as_told line old new (Some ReadFault) is = is
as_told line old new (Some WriteFault) is = is
as_told line old new (Some TooManyLines) is = is
as_told line old new (Some NoMemory) is = absurd is
