use Rattle.ele_model.proofs.Formed.{in_parts}
use Rattle.ele_world.proofs.Saves.{save_reads}
use Rattle.ele_world.proofs.laws.effects.save_reads.Goals as goal

pub returns : goal.returns
returns c = λ w path bytes number k. save_reads w path bytes number (in_parts c.policies_are_lawful.ensures w k)
