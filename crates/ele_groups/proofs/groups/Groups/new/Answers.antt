use Rattle.ele_groups.proofs.Kept.{kept_empty}
use Rattle.ele_groups.proofs.groups.Groups.new.Goals as goal

pub invariant_of-result : goal.invariant_of-result
invariant_of-result c = kept_empty _ _ c.new.ensures.empty c.new-2.ensures
