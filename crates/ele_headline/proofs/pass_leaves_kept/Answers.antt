use Rattle.ele_model.proofs.Formed.{in_parts}
use Rattle.ele_model.proofs.PassEnds.{pass_leaves_kept}
use Rattle.ele_headline.proofs.pass_leaves_kept.Goals as goal

pub returns : goal.returns
returns c = λ w removed after k. pass_leaves_kept w removed after (in_parts c.policies_are_lawful.ensures w k)
