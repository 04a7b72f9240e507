use Rattle.std.proofs.Common.{length}
use Rattle.ele_journal.specs.ChangesRead.{Reads}
use Rattle.ele_journal.proofs.next.changes_of.Given as goal

-- the changes so far were read, up to the rest
abbrev pub invariant-loop-rest : goal.invariant-loop-rest
invariant-loop-rest l = Reads l.bytes l.changes.items l.rest

abbrev pub decreases-loop-rest : goal.decreases-loop-rest
decreases-loop-rest l = length l.rest
