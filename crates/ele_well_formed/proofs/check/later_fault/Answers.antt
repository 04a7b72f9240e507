use Rattle.ele_well_formed.proofs.Start.{start}
use Rattle.ele_well_formed.proofs.check.later_fault.Goals as goal

pub returns-in-None : goal.returns-in-None
returns-in-None c =
    start c.args.flat.now c.lemma_in_range.ensures c.lemma_within.ensures (rw c.in_default-4.is at c.in_ok-fault-4.ensures) (rw c.in_default-5.is at c.in_ok-fault-5.ensures) (rw c.in-None.is at c.in_ok-at.ensures.none)
