use Rattle.ele_policy.specs.declared.policy.Policy.{Policy}
use Rattle.ele_suggest.specs.Suggested.{IsWeighed}
use Rattle.ele_suggest.specs.declared.weighed.Weighed.{Weighed}
use Rattle.ele_suggest.proofs.Steps.{zip_more}
use Rattle.ele_suggest.proofs.weigh.weigh_all.Goals as goal

pub loop-policy-preserved : goal.loop-policy-preserved
loop-policy-preserved c =
    rw c.in_ok-push.ensures.items (zip_more (λ (policy : Policy) (one : Weighed). IsWeighed c.args.asked.now c.args.closings.now c.args.versions.now c.args.at policy one) c.args.policies.now c.loop-policy.policy-index c.policy-item.result c.loop-policy.weighed.items c.in_ok-weigh.field-0 c.loop-policy-test.true c.policy-item.is c.loop-policy.invariant c.in_ok-weigh.ensures)
