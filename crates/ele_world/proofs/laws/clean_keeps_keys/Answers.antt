use Rattle.ele_model.proofs.Formed.{in_parts}
use Rattle.ele_model.proofs.CleanKeepsKeys.{clean_keeps_keys}
use Rattle.ele_world.proofs.laws.clean_keeps_keys.Goals as goal

pub returns : goal.returns
returns c = λ w key k. clean_keeps_keys w key (in_parts c.policies_are_lawful.ensures w k)
