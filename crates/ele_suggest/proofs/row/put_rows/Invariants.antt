use Rattle.std.specs.Prelude.{drop}
use Rattle.ele_output.specs.Prints.{outlet}
use Rattle.ele_output.proofs.Known.{HasPut}
use Rattle.ele_suggest.specs.SuggestedText.{row_text, rows_from, rows_text}
use Rattle.ele_suggest.proofs.row.put_rows.Given as goal

-- the rows so far are put, and the others are left
abbrev pub invariant-loop-place : goal.invariant-loop-place
invariant-loop-place g l =
    HasPut (outlet g.W.Write.contents l.fn.printer) (outlet g.W.Write.contents l.printer) (rows_text l.around l.between l.sizes l.suggestion) (rows_from (row_text l.around l.between l.sizes) l.suggestion.best l.place (drop l.place l.weighed))
