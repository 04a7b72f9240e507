use Rattle.std.proofs.Common.{◌∙◌}
use Rattle.ele_policy.proofs.Causes.{displaced}
use Rattle.ele_policy.proofs.cause.cause_of.Goals as goal

pub returns-in-Some : goal.returns-in-Some
returns-in-Some c newer first =
    displaced c.args.policy.now c.in-Landmarks.ladder c.args.closed c.args.ended c.args.at c.level-level.result c.in-Some.nearest c.in-Landmarks.is (cc) (rw c.in-Some.is at c.requires) newer (first ∙ c.in-Some.is)
