use Rattle.ele_events.proofs.Opened.{opened}
use Rattle.ele_model.proofs.Basics.{◌≡◌, false, arith, nat_tests}
use Rattle.ele_model.specs.World.{has_draft}
use Rattle.ele_events.proofs.session.open_write.Goals as goal

pub returns : goal.returns
returns c =
    let w = c.args.state.now.world in
    let file = c.in-Ok.found in
    let none : has_draft w file ≡ false = grind (arith, nat_tests) in
    opened w c.open_write-2.new.self.world c.args.path.now file c.in_ok-open_write-2.field-0 (grind (arith, nat_tests)) (grind (arith, nat_tests)) none (grind (arith, nat_tests)) (grind (arith, nat_tests)) (c.in_ok-open_write-2.ensures.first none)
