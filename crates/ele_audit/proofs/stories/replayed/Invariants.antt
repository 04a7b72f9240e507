use Rattle.std.specs.Prelude.{filter}
use Rattle.ele_audit.proofs.Basics.{drop}
use Rattle.ele_audit.proofs.Gathers.{Gathers}
use Rattle.ele_audit.specs.Removals.{removals}
use Rattle.ele_audit.specs.Story.{WasRemoved, is_removal_from}
use Rattle.ele_audit.proofs.stories.replayed.Given as goal

-- the rows of the entries so far are there, and the core's world is the one after them
abbrev pub invariant-loop-entry : goal.invariant-loop-entry
invariant-loop-entry g l =
    Gathers (WasRemoved l.file) (filter (is_removal_from l.file) (removals l.history.base l.entries)) (filter (is_removal_from l.file) (removals (g.C.Step.world l.core) (drop l.entry-index l.entries))) l.rows.items
