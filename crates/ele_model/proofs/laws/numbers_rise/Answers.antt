use Rattle.ele_model.proofs.Formed.{in_parts}
use Rattle.ele_model.proofs.Rising.{numbers_rise}
use Rattle.ele_model.proofs.laws.numbers_rise.Goals as goal

pub returns : goal.returns
returns c = λ w event k. numbers_rise w event (in_parts c.policies_are_lawful.ensures w k)
