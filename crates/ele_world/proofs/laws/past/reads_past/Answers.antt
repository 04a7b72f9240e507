use Rattle.ele_model.proofs.Formed.{in_parts}
use Rattle.ele_world.proofs.ReadsStill.{reads_past}
use Rattle.ele_world.proofs.laws.past.reads_past.Goals as goal

pub returns : goal.returns
returns c = λ w event path moment bytes k is past was. reads_past w event path moment bytes (in_parts c.policies_are_lawful.ensures w k) is past was
