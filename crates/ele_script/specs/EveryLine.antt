-- Each line asks for something or has a first fault, in a run that explains and in one that doesn't.
use Rattle.std.specs.Prelude.{ℕ, Bool, List, ◌⊎◌}
use Rattle.ele_script.specs.FirstFault.{IsFirstFault}
use Rattle.ele_script.specs.Spells.{Asks}
use Rattle.ele_printer.specs.declared.fault.LineFault.{LineFault}
use Rattle.ele_script.specs.declared.reading.Line.{Line}

-- for any list of numbers, also of those that are no bytes
abbrev pub EveryLineMeaning : Type 0
EveryLineMeaning =
    (explains : Bool) (line : List ℕ)
    → ((asked : Line) × Asks explains line asked) ⊎ ((fault : LineFault) × IsFirstFault explains line fault)
