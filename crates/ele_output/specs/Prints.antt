-- What a printer prints.
use Rattle.std.specs.Prelude.{ℕ, List, Option}
use Rattle.ele_output.specs.Outlet.{Outlet, Puts}
use Rattle.ele_output.specs.declared.printer.Printer.{Printer}

-- a printer as its outlet, by the bytes that its writer is known to hold
abbrev pub outlet : {W : Type 0} → (W → Option (List ℕ)) → Printer W → Outlet
outlet contents printer = record {
  writer = printer.writer.ghost_name;
  known = contents printer.writer.now;
  held = printer.held.items;
  has_failed = printer.has_failed;
}

-- these bytes were printed
abbrev pub Prints : {W : Type 0} → (W → Option (List ℕ)) → Printer W → Printer W → List ℕ → Type 0
Prints contents old new bytes = Puts (outlet contents old) (outlet contents new) bytes
