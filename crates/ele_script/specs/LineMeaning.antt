-- No line has two meanings, in a run that explains or in one that doesn't. Its meaning is what it asks for, or its first fault.
use Rattle.std.specs.Prelude.{◌≡◌, ℕ, Bool, List}
use Rattle.ele_script.specs.FirstFault.{IsFirstFault}
use Rattle.ele_script.specs.Spells.{Asks, SpellsLine}
use Rattle.ele_printer.specs.declared.fault.LineFault.{LineFault}
use Rattle.ele_script.specs.declared.reading.Line.{Line}

-- a line of any length spells at most one thing. It asks for at most one, has at most one first fault, and doesn't do both
pub record OneLineMeaning : Type 0 where
  pub one_spelling : (line : List ℕ) (a b : Line) → SpellsLine line a → SpellsLine line b → a ≡ b
  pub one_line : (explains : Bool) (line : List ℕ) (a b : Line) → Asks explains line a → Asks explains line b → a ≡ b
  pub one_fault : (explains : Bool) (line : List ℕ) (a b : LineFault) → IsFirstFault explains line a → IsFirstFault explains line b → a ≡ b
  pub faultless : (explains : Bool) (line : List ℕ) (asked : Line) (fault : LineFault)
      → Asks explains line asked → ¬ IsFirstFault explains line fault
