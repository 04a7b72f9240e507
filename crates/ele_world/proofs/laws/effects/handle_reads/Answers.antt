use Rattle.ele_model.proofs.Formed.{in_parts}
use Rattle.ele_world.proofs.Written.{handle_reads}
use Rattle.ele_world.proofs.laws.effects.handle_reads.Goals as goal

pub returns : goal.returns
returns c = λ w tagged handle k. handle_reads w tagged handle (in_parts c.policies_are_lawful.ensures w k)
