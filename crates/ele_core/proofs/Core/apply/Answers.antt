use Rattle.ele_headline.proofs.Answered.{keeps}
use Rattle.ele_model.proofs.Basics.{arith, nat_tests}
use Rattle.ele_core.proofs.Core.apply.Goals as goal

pub returns-in-Ok-clause-headline : goal.returns-in-Ok-clause-headline
returns-in-Ok-clause-headline c = keeps c.headline.ensures _ _ _ _ (grind (arith, nat_tests))

pub returns-in-Refused-clause-headline : goal.returns-in-Refused-clause-headline
returns-in-Refused-clause-headline c = keeps c.headline.ensures _ _ _ _ (grind (arith, nat_tests))
