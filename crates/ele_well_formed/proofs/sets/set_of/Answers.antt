use Rattle.ele_well_formed.proofs.Words.{arith, list_any-append, nat_tests, take_more}
use Rattle.ele_well_formed.proofs.sets.set_of.Goals as goal

pub loop-number-preserved : goal.loop-number-preserved
loop-number-preserved c = λ q. grind (arith, nat_tests, c.in_ok-_new.ensures.updates.0 q, c.loop-number.invariant q, take_more c.args.numbers.now c.loop-number.number-index 0, list_any-append)
