use Rattle.ele_events.proofs.HadVersions.{told_own}
use Rattle.ele_model.proofs.Basics.{arith, nat_tests}
use Rattle.ele_events.proofs.then.own_version.Goals as goal

pub returns-in-Ok-version_meant : goal.returns-in-Ok-version_meant
returns-in-Ok-version_meant c = told_own c.args.state.now.world c.args.path.now c.args.moment c.in-Ok.file c.in-Ok-version_meant.info c.args.refusal (grind (arith, nat_tests)) (grind (arith, nat_tests)) c.in-Ok-version_meant.ensures
