use Rattle.std.specs.Prelude.{ℕ, ◌∷◌, ◌++◌, codes, decimal, drop}
use Rattle.std.specs.List.{flat_map}
use Rattle.ele_output.specs.Prints.{outlet}
use Rattle.ele_output.proofs.Known.{HasPut}
use Rattle.ele_against.specs.ComparedTable.{numbers_end}
use Rattle.ele_against.proofs.table.put_numbers.Given as goal

-- the numbers so far are put, and the others and the end of the line are left
abbrev pub invariant-loop-number : goal.invariant-loop-number
invariant-loop-number g l =
    HasPut (outlet g.W.Write.contents l.fn.printer) (outlet g.W.Write.contents l.printer) (numbers_end l.numbers) (flat_map (λ (number : ℕ). 32 ∷ decimal number) (drop l.number-index l.numbers) ++ codes "\n")
