use Rattle.ele_names.proofs.Words.{◌≡◌, take}
use Rattle.ele_names.proofs.names.Names.from_rows.Given as goal

abbrev pub invariant-loop-row : goal.invariant-loop-row
invariant-loop-row l = l.names ≡ take l.row-index l.rows
