use Rattle.std.specs.Prelude.{take}
use Rattle.std.specs.List.{AllZip}
use Rattle.ele_outlook.specs.Told.{IsByteRow}
use Rattle.ele_outlook.proofs.drawn.byte_rows.Given as goal

-- those of the rows so far
abbrev pub invariant-loop-row : goal.invariant-loop-row
invariant-loop-row l = AllZip IsByteRow (take l.row-index l.rows) l.drawn.items
