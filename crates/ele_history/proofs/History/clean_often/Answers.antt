use Rattle.std.proofs.Common.{◌≡◌, arith, refl, subst}
use Rattle.ele_history.specs.Pass.{Removes}
use Rattle.ele_history.proofs.Passes.{removes_more}
use Rattle.ele_history.proofs.History.clean_often.Goals as goal

pub loop-removed-init : goal.loop-removed-init
loop-removed-init g c = refl

pub returns-in-Ok-false : goal.returns-in-Ok-false
returns-in-Ok-false g c =
    (c.loop-removed-test.true, (c.loop-removed.self, c.loop-removed.invariant, rw c.in-Ok-false.field-0-test at c.in-Ok-false.ensures))

pub returns-in-Err : goal.returns-in-Err
returns-in-Err g c = (c.loop-removed-test.true, (c.loop-removed.self, c.loop-removed.invariant, c.in-Err.ensures))

pub loop-removed-preserved : goal.loop-removed-preserved
loop-removed-preserved g c =
    removes_more _ c.loop-removed.self _ _ c.loop-removed.invariant (rw c.in-Ok-true.field-0-test at c.in-Ok-true.ensures)

pub returns : goal.returns
returns g c =
    let all : c.loop-removed.removed ≡ c.args.budget = omega (arith, c.loop-removed-test.false, c.loop-removed.auto.removed-end) in
    (refl, subst (λ n. Removes c.args.self.now n c.loop-removed.self) all c.loop-removed.invariant)
