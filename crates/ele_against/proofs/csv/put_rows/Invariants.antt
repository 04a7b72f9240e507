use Rattle.std.specs.Prelude.{drop}
use Rattle.std.specs.List.{flat_map}
use Rattle.ele_output.specs.Prints.{outlet}
use Rattle.ele_output.proofs.Known.{HasPut}
use Rattle.ele_against.specs.ComparedCsv.{row_text, rows_text}
use Rattle.ele_against.proofs.csv.put_rows.Given as goal

-- the rows so far are put, and the others are left
abbrev pub invariant-loop-number : goal.invariant-loop-number
invariant-loop-number g l =
    HasPut (outlet g.W.Write.contents l.fn.printer) (outlet g.W.Write.contents l.printer) (rows_text l.details l.word l.group l.numbers) (flat_map (row_text l.details l.word l.group) (drop l.number-index l.numbers))
