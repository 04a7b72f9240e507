use Rattle.std.proofs.Common.{◌≡◌, arith, refl, subst}
use Rattle.ele_keeper.proofs.Journaling.{removes_more}
use Rattle.ele_keeper.proofs.journaled.pass_journaled.Goals as goal
use Rattle.ele_keeper.specs.Kept.{state_of}
use Rattle.ele_runs.specs.Kept.{Journaled, RemovesMany}

pub loop-removed-init : goal.loop-removed-init
loop-removed-init c = refl

pub loop-removed-preserved : goal.loop-removed-preserved
loop-removed-preserved c =
    removes_more _ (Journaled (state_of c.loop-removed.keeper) c.loop-removed.journal) _ _ c.loop-removed.invariant (rw c.in-Ok-true.field-0-test at c.in-Ok-true.ensures)

pub returns-in-Ok-false : goal.returns-in-Ok-false
returns-in-Ok-false c =
    (c.loop-removed-test.true, (Journaled (state_of c.loop-removed.keeper) c.loop-removed.journal, c.loop-removed.invariant, rw c.in-Ok-false.field-0-test at c.in-Ok-false.ensures))

pub returns-in-Err : goal.returns-in-Err
returns-in-Err c = (c.loop-removed-test.true, (Journaled (state_of c.loop-removed.keeper) c.loop-removed.journal, c.loop-removed.invariant, c.in-Err.ensures))

pub returns : goal.returns
returns c =
    let all : c.loop-removed.removed ≡ c.args.budget = omega (arith, c.loop-removed-test.false, c.loop-removed.auto.removed-end) in
    (refl, subst (λ n. RemovesMany (Journaled (state_of c.args.keeper.now) c.args.journal.now) n (Journaled (state_of c.loop-removed.keeper) c.loop-removed.journal)) all c.loop-removed.invariant)
