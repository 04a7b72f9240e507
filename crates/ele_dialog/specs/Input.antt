-- What reading a line takes from a reader. No public clause cites this module.
use Rattle.std.specs.Prelude.{◌≡◌, ◌≢◌, ℕ, ◌≤◌, Bool, true, false, List, [], ◌∷◌, ◌++◌, length, take, Option, Some, None, Result, Ok, Err}
use Rattle.std.specs.Io.KnownBytes.{Consumes, IsAtEnd, Keeps}
use Rattle.ele_run_options.specs.declared.fault.ShellFault.{ShellFault}
use Rattle.ele_run_options.specs.declared.fault.ShellFault.TheVariants.{ReadFault, WriteFault, TooManyLines, NoMemory}
use Rattle.ele_runs.specs.Lines.{IsUnbroken}

-- the bytes at the start of the piece were read, and none only at the end of the input; a fault reads nothing
abbrev pub TakesPiece : Option (List ℕ) → Option (List ℕ) → List ℕ → Result ℕ ShellFault → Type 0
TakesPiece old new piece (Ok count) = (count ≤ length piece) × Consumes old new (take count piece) × (count ≡ 0 → IsAtEnd new)
TakesPiece old new piece (Err ReadFault) = Keeps old new
TakesPiece old new piece (Err WriteFault) = ⊥
TakesPiece old new piece (Err TooManyLines) = ⊥
TakesPiece old new piece (Err NoMemory) = ⊥

-- a byte was read, or the input is at its end; a fault reads nothing
abbrev pub TakesByte : Option (List ℕ) → Option (List ℕ) → Result (Option ℕ) ShellFault → Type 0
TakesByte old new (Ok (Some byte)) = Consumes old new (byte ∷ [])
TakesByte old new (Ok None) = Consumes old new [] × IsAtEnd new
TakesByte old new (Err ReadFault) = Keeps old new
TakesByte old new (Err WriteFault) = ⊥
TakesByte old new (Err TooManyLines) = ⊥
TakesByte old new (Err NoMemory) = ⊥

-- a whole line was read with its line feed, or a last one; a fault leaves the bytes of a line before it, and without memory there is one
abbrev pub ReadsLine : Option (List ℕ) → Option (List ℕ) → List ℕ → Result Bool ShellFault → Type 0
ReadsLine old new line (Ok true) = IsUnbroken line × Consumes old new (line ++ 10 ∷ [])
ReadsLine old new line (Ok false) = IsUnbroken line × Consumes old new line × IsAtEnd new
ReadsLine old new line (Err ReadFault) = IsUnbroken line × Consumes old new line
ReadsLine old new line (Err NoMemory) = (part : List ℕ) × (part ≢ []) × IsUnbroken part × Consumes old new part
ReadsLine old new line (Err WriteFault) = ⊥
ReadsLine old new line (Err TooManyLines) = ⊥
