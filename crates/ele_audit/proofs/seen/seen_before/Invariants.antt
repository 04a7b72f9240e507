use Rattle.ele_audit.proofs.Basics.{drop}
use Rattle.ele_audit.proofs.Sees.{Sees}
use Rattle.ele_audit.specs.Removals.{removals}
use Rattle.ele_audit.proofs.seen.seen_before.Given as goal

-- what the entries so far show was seen, and the core's world is the one after them
abbrev pub invariant-loop-entry : goal.invariant-loop-entry
invariant-loop-entry g l = Sees l.path (removals l.history.base l.entries) (removals (g.C.Step.world l.core) (drop l.entry-index l.entries)) l.seen
