use Rattle.ele_moment.proofs.Names.{IsPadded-written}
use Rattle.ele_moment.proofs.name.Name.of.Goals as goal

pub invariant_of-result : goal.invariant_of-result
invariant_of-result c =
    rw c.copy_from_slice.ensures.after (IsPadded-written _ c.requires)
