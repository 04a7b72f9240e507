use Rattle.ele_model.proofs.Basics.{arith, nat_tests}
use Rattle.ele_events.proofs.saving.save_new.Goals as goal

pub returns-in-Err : goal.returns-in-Err
returns-in-Err c = grind (arith, nat_tests, c.in-Err.ensures.refused (c.args.directory, c.args.name) c.args.bytes.now)
