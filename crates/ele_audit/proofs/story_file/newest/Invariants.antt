use Rattle.ele_audit.proofs.Basics.{drop}
use Rattle.ele_name_paths.proofs.Lasts.{IsLastSoFar}
use Rattle.ele_model.specs.NameRows.{is_named}
use Rattle.ele_audit.proofs.story_file.newest.Given as goal

-- the last of the rows so far is found
abbrev pub invariant-loop-row : goal.invariant-loop-row
invariant-loop-row l = IsLastSoFar (is_named l.directory l.name) l.rows (drop l.row-index l.rows) l.last
