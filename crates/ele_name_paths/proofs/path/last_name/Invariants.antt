use Rattle.ele_name_paths.proofs.Basics.{drop}
use Rattle.ele_name_paths.proofs.Lasts.{IsLastSoFar}
use Rattle.ele_name_paths.specs.LivePath.{is_name_to}
use Rattle.ele_name_paths.proofs.path.last_name.Given as goal

-- the last of the rows so far is found
abbrev pub invariant-loop-row : goal.invariant-loop-row
invariant-loop-row l = IsLastSoFar (is_name_to l.at) l.rows (drop l.row-index l.rows) l.last
