use Rattle.std.specs.Prelude.{◌++◌, codes, drop}
use Rattle.std.specs.List.{flat_map}
use Rattle.ele_output.specs.Prints.{outlet}
use Rattle.ele_output.proofs.Known.{HasPut}
use Rattle.ele_space.specs.AmountsText.{amount_text, amounts_line}
use Rattle.ele_space.proofs.text.put_row.Given as goal

-- the amounts so far are put, and the others and the end of the line are left
abbrev pub invariant-loop-amount : goal.invariant-loop-amount
invariant-loop-amount g l =
    HasPut (outlet g.W.Write.contents l.fn.printer) (outlet g.W.Write.contents l.printer) (amounts_line l.mark l.sizes l.row) (flat_map (amount_text l.mark l.sizes) (drop l.amount-index l.amounts) ++ codes "\n")
