use Rattle.std.specs.Prelude.{take}
use Rattle.ele_suggest.specs.Suggested.{AreWeighed}
use Rattle.ele_suggest.proofs.weigh.weigh_all.Given as goal

-- what the policies so far keep
abbrev pub invariant-loop-policy : goal.invariant-loop-policy
invariant-loop-policy l = AreWeighed l.asked l.closings l.versions l.at (take l.policy-index l.policies) l.weighed.items
