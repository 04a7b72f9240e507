use Rattle.ele_events.proofs.HadVersions.{row_of}
use Rattle.ele_model.proofs.Basics.{arith, nat_tests}
use Rattle.ele_events.proofs.saving.restore_over.Goals as goal

pub returns-then-eq : goal.returns-then-eq
returns-then-eq c = λ row held. let is = row_of c.args.state.now.world c.args.from c.args.number row held in grind (arith, nat_tests)

pub returns : goal.returns
returns c = λ row held. let is = row_of c.args.state.now.world c.args.from c.args.number row held in grind (arith, nat_tests)
