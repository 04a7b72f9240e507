use Rattle.std.specs.Prelude.{filter}
use Rattle.ele_audit.proofs.Basics.{drop}
use Rattle.ele_audit.proofs.Gathers.{Adds}
use Rattle.ele_audit.specs.Story.{IsHeldNow}
use Rattle.ele_model.specs.FileView.{is_version_of}
use Rattle.ele_audit.proofs.stories.add_held.Given as goal

-- the rows of the versions so far are there
abbrev pub invariant-loop-version : goal.invariant-loop-version
invariant-loop-version g l =
    Adds (IsHeldNow (g.C.Step.world l.core)) (filter (is_version_of l.file) l.versions) (filter (is_version_of l.file) (drop l.version-index l.versions)) l.fn.rows.items l.rows.items
