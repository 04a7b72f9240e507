use Rattle.ele_model.proofs.Formed.{in_parts}
use Rattle.ele_world.proofs.Saves.{restore_reads}
use Rattle.ele_world.proofs.laws.effects.restore_reads.Goals as goal

pub returns : goal.returns
returns c = λ w path moment number k. restore_reads w path moment number (in_parts c.policies_are_lawful.ensures w k)
