use Rattle.ele_model.proofs.Formed.{in_parts}
use Rattle.ele_world.proofs.Written.{write_lays}
use Rattle.ele_world.proofs.laws.effects.write_lays.Goals as goal

pub returns : goal.returns
returns c = λ w handle offset bytes k. write_lays w handle offset bytes (in_parts c.policies_are_lawful.ensures w k)
