use Rattle.ele_model.proofs.Basics.{arith, None, Some, nat_tests}
use Rattle.ele_model.proofs.DueKeys.{due_key-is}
use Rattle.ele_model.proofs.scan.due_key.Goals as goal

pub returns-in_default : goal.returns-in_default
returns-in_default c = grind (arith, nat_tests, c.seconds-at.ensures, due_key-is c.args.world.now c.args.row.now None, rw c.in_default.is at c.in_ok-ripe.ensures)

pub returns-then-seconds-at : goal.returns-then-seconds-at
returns-then-seconds-at c = grind (arith, nat_tests, c.seconds-at.ensures.value, c.seconds.ensures.value, c.if-seconds-at.true, due_key-is c.args.world.now c.args.row.now (Some c.in-Some.ripe) (omega (arith, c.seconds-at.ensures)), rw c.in-Some.is at c.in_ok-ripe.ensures)

pub returns : goal.returns
returns c = grind (arith, nat_tests, c.seconds-at.ensures.value, c.seconds.ensures.value, c.if-seconds-at.false, due_key-is c.args.world.now c.args.row.now (Some c.in-Some.ripe) (omega (arith, c.seconds-at.ensures)), rw c.in-Some.is at c.in_ok-ripe.ensures)
