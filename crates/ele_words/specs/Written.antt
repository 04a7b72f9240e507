-- What is written up to a fault, and how that ends the program.
use Rattle.std.specs.Prelude.{◌≡◌, ℕ, List, Option, Some, None}
use Rattle.std.specs.Io.KnownBytes.{Appends}
use Rattle.ele_output.specs.Front.{AppendsFront}
use Rattle.ele_output.specs.Outlet.{Outlet}
use Rattle.ele_run_options.specs.declared.fault.ShellFault.{ShellFault}
use Rattle.ele_run_options.specs.declared.fault.ShellFault.TheVariants.{ReadFault, WriteFault, TooManyLines, NoMemory}
use Rattle.ele_words.specs.Status.{TellsFault, status_of}

-- a text, by the fault that ended it: all of it was written, or a prefix
abbrev pub HasWritten : List ℕ → Option (List ℕ) → Option (List ℕ) → Option ShellFault → Type 0
HasWritten text old new None = Appends old new text
HasWritten text old new (Some WriteFault) = AppendsFront old new text
HasWritten text old new (Some ReadFault) = ⊥
HasWritten text old new (Some TooManyLines) = ⊥
HasWritten text old new (Some NoMemory) = ⊥

-- something was done up to a fault, or to its end; the fault was reported, and the status is its own
pub record Ends (Done : Option ShellFault → Type 0) (before after : Outlet) (status : ℕ) : Type 0 where
  pub fault : Option ShellFault
  pub done : Done fault
  pub status_is : status ≡ status_of fault
  pub told : TellsFault fault before after
