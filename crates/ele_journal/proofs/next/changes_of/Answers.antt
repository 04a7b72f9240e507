use Rattle.ele_journal.proofs.Steps.{reads_more}
use Rattle.ele_journal.proofs.next.changes_of.Goals as goal

pub loop-rest-preserved : goal.loop-rest-preserved
loop-rest-preserved c = rw c.in_ok-push-in-Ok.ensures.items (reads_more c.args.bytes.now c.loop-rest.rest.now c.in-Ok.after.now c.loop-rest.changes.items c.in-Ok.change c.loop-rest.invariant c.in-Ok.ensures.found)
