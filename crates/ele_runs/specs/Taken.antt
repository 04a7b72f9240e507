-- What reading a piece takes from a reader. No public clause cites this module.
use Rattle.std.specs.Prelude.{◌≡◌, ℕ, ◌≤◌, List, take, Option, Result, Ok, Err}
use Rattle.std.specs.Io.KnownBytes.{Consumes, Keeps, IsAtEnd}
use Rattle.ele_run_options.specs.declared.fault.ShellFault.{ShellFault}
use Rattle.ele_run_options.specs.declared.fault.ShellFault.TheVariants.{ReadFault, WriteFault, TooManyLines, NoMemory}

-- the bytes at the start of the piece were read, and none only at the end of the input; a fault reads nothing
abbrev pub TakesPiece : Option (List ℕ) → Option (List ℕ) → ℕ → List ℕ → Result ℕ ShellFault → Type 0
TakesPiece old new most piece (Ok count) =
    (count ≤ most) × Consumes old new (take count piece) × (count ≡ 0 → IsAtEnd new)
TakesPiece old new most piece (Err ReadFault) = Keeps old new
TakesPiece old new most piece (Err WriteFault) = ⊥
TakesPiece old new most piece (Err TooManyLines) = ⊥
TakesPiece old new most piece (Err NoMemory) = ⊥
