use Rattle.std.specs.Prelude.{filter}
use Rattle.ele_audit.proofs.Basics.{drop}
use Rattle.ele_audit.proofs.Gathers.{Gathers}
use Rattle.ele_name_paths.specs.LivePath.{is_name_to}
use Rattle.ele_audit.specs.Story.{IsNameStory}
use Rattle.ele_model.specs.declared.rows.Target.TheVariants.{File}
use Rattle.ele_audit.proofs.seen.names_of.Given as goal

-- the names so far are there
abbrev pub invariant-loop-row : goal.invariant-loop-row
invariant-loop-row l =
    Gathers (IsNameStory l.rows) (filter (is_name_to (File l.file)) l.rows) (filter (is_name_to (File l.file)) (drop l.row-index l.rows)) l.names.items
