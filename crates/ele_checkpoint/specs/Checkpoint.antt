-- The bytes of a world: how they begin, all of its rows and numbers, their length and their sum.
use Rattle.std.specs.Prelude.{◌≡◌, ℕ, ◌+◌, List, [], ◌∷◌, ◌++◌, length, codes, Result, Ok, Err}
use Rattle.std.specs.Int.{w32, w64, to_be_bytes}
use Rattle.ele_model.specs.declared.flat.Flat.{Flat}
use Rattle.ele_checkpoint.specs.declared.fault.ReadError.{ReadError}
use Rattle.ele_checkpoint.specs.declared.fault.ReadError.TheVariants as errors
use Rattle.ele_checkpoint.specs.Sum.{sum}
use Rattle.ele_checkpoint.specs.Whole.{whole_text}

-- how each checkpoint begins: its name, and version 1 of the form
abbrev pub head : List ℕ
head = codes "ELEPHANT" ++ 1 ∷ []

-- bytes with the length of all in eight bytes behind them
abbrev pub measured : List ℕ → List ℕ
measured body = body ++ to_be_bytes w64 (length body + 12)

-- bytes with their length, and the sum of both in four bytes
abbrev pub sealed : List ℕ → List ℕ
sealed body = measured body ++ to_be_bytes w32 (sum (measured body))

-- the bytes of a world
abbrev pub checkpoint : Flat → List ℕ
checkpoint flat = sealed (head ++ whole_text flat)

-- a world was read, unless memory was refused
abbrev pub IsRead : Flat → Result Flat ReadError → Type 0
IsRead flat (Ok read) = read ≡ flat
IsRead flat (Err errors.NoMemory) = Unit {0}
IsRead flat (Err (errors.Fault fault)) = ⊥
