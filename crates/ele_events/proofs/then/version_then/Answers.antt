use Rattle.ele_events.proofs.HadVersions.{then_found, then_held}
use Rattle.ele_model.proofs.Basics.{arith, nat_tests}
use Rattle.ele_events.proofs.then.version_then.Goals as goal

pub returns-in-Ok-clause-held : goal.returns-in-Ok-clause-held
returns-in-Ok-clause-held c = then_held c.args.state.now.world c.args.path.now c.args.moment c.version_of.result (grind (arith, nat_tests))

pub returns-in-Ok-clause-row : goal.returns-in-Ok-clause-row
returns-in-Ok-clause-row c = then_found c.args.state.now.world c.args.path.now c.args.moment c.now.ensures.formed.versions.placed c.version_of.result (grind (arith, nat_tests))

pub returns-in-Err-clause-held : goal.returns-in-Err-clause-held
returns-in-Err-clause-held c = then_held c.args.state.now.world c.args.path.now c.args.moment c.own_version.result (grind (arith, nat_tests))

pub returns-in-Err-clause-row : goal.returns-in-Err-clause-row
returns-in-Err-clause-row c = then_found c.args.state.now.world c.args.path.now c.args.moment c.now.ensures.formed.versions.placed c.own_version.result (grind (arith, nat_tests))
