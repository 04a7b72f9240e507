use Rattle.ele_core.proofs.Passes.{finished}
use Rattle.ele_model.proofs.Basics.{arith, nat_tests, refl, subst}
use Rattle.ele_model.proofs.Formed.{in_parts}
use Rattle.ele_model.proofs.PassEnds.{budget_ends}
use Rattle.ele_model.proofs.Words.{HasParts, IsCleaned}
use Rattle.ele_core.proofs.Core.clean_pass.Goals as goal

pub returns-then-is_none-clause-end : goal.returns-then-is_none-clause-end
returns-then-is_none-clause-end c =
    let w = c.args.self.now.world in
    let formed : HasParts w = in_parts c.policies_are_lawful.ensures w c.now-now.ensures.formed in
    finished w c.loop-removed.self.world c.clean_one.new.self.world c.loop-removed.removed c.args.budget c.clean_one.result formed c.loop-removed.invariant (grind (arith, nat_tests)) c.clean_one.ensures.step c.loop-removed-test.true

pub returns-clause-end : goal.returns-clause-end
returns-clause-end c =
    let w = c.args.self.now.world in
    let formed : HasParts w = in_parts c.policies_are_lawful.ensures w c.now-now.ensures.formed in
    (refl, budget_ends w c.args.budget c.loop-removed.self.world formed (subst (λ n. IsCleaned w n c.loop-removed.self.world) (omega (arith, c.loop-removed-test.false, c.loop-removed.auto.removed-end)) c.loop-removed.invariant))
