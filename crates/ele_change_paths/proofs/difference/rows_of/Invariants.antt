use Rattle.std.specs.Prelude.{filter}
use Rattle.ele_change_paths.proofs.Basics.{drop}
use Rattle.ele_name_paths.proofs.Gathers.{Gathers}
use Rattle.ele_change_paths.specs.PathChanges.{IsPathChange, is_asked}
use Rattle.ele_change_paths.proofs.difference.rows_of.Given as goal

-- the rows of the changes so far are there
abbrev pub invariant-loop-change : goal.invariant-loop-change
invariant-loop-change l =
    Gathers (IsPathChange l.was l.is) (filter (is_asked l.was l.is l.within) l.changes) (filter (is_asked l.was l.is l.within) (drop l.change-index l.changes)) l.rows.items
