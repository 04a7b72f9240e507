use Rattle.ele_model.proofs.Formed.{in_parts}
use Rattle.ele_model.proofs.RemovalOrder.{removal_order}
use Rattle.ele_world.proofs.laws.removal_order.Goals as goal

pub returns : goal.returns
returns c = λ w before row behind k. removal_order w before row behind (in_parts c.policies_are_lawful.ensures w k)
