use Rattle.ele_events.proofs.Meant.{stat_is}
use Rattle.ele_model.proofs.Basics.{arith, nat_tests}
use Rattle.ele_events.proofs.question.stat_file.Goals as goal

pub returns-clause-ok : goal.returns-clause-ok
returns-clause-ok c = grind (arith, nat_tests, stat_is)
