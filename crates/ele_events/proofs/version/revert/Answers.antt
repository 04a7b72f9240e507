use Rattle.ele_events.proofs.Meant.{numbered, numbered_held}
use Rattle.ele_model.proofs.Basics.{arith, nat_tests}
use Rattle.ele_events.proofs.version.revert.Goals as goal

pub revert_to-requires-clause-held : goal.revert_to-requires-clause-held
revert_to-requires-clause-held c = grind (arith, nat_tests, numbered_held)

pub returns : goal.returns
returns c = grind (arith, nat_tests, numbered)
