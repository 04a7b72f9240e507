use Rattle.ele_model.proofs.Basics.{◌≡◌, take}
use Rattle.ele_model.proofs.Words.{newest_rows}
use Rattle.ele_model.proofs.returning.newest_rows.Given as goal

abbrev pub invariant-loop-row : goal.invariant-loop-row
invariant-loop-row l = l.newest.entries ≡ newest_rows (take l.row-index l.rows)
