use Rattle.ele_removals.proofs.Basics.{drop}
use Rattle.ele_audit.proofs.Gathers.{Gathers}
use Rattle.ele_audit.specs.LastCopy.{IsCopy}
use Rattle.ele_audit.specs.Removals.{removals}
use Rattle.ele_removals.specs.Removals.{IsTold}
use Rattle.ele_removals.proofs.replay.replayed.Given as goal

-- the rows of the entries so far are there, the core's world is the one after them, and the copy has its rows
abbrev pub invariant-loop-entry : goal.invariant-loop-entry
invariant-loop-entry g l =
    record {
      rows : Gathers IsTold (removals l.history.base l.entries) (removals (g.C.Step.world l.core) (drop l.entry-index l.entries)) l.rows.items;
      copy : IsCopy (g.C.Step.world l.core) l.copy;
    }
