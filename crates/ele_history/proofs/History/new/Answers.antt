use Rattle.ele_history.proofs.Growth.{begun}
use Rattle.ele_history.proofs.History.new.Goals as goal

pub invariant_of-result : goal.invariant_of-result
invariant_of-result g c = rw (c.in_ok-base.ensures, c.in_ok-core.ensures, c.new.ensures.items) (begun c.args.limits c.lemma_within.ensures)
