use Rattle.ele_model.proofs.Formed.{in_parts}
use Rattle.ele_world.proofs.Written.{draft_begins}
use Rattle.ele_world.proofs.laws.effects.draft_begins.Goals as goal

pub returns : goal.returns
returns c = λ w path handle k. draft_begins w path handle (in_parts c.policies_are_lawful.ensures w k)
