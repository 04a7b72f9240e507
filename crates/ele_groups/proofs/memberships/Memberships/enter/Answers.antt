use Rattle.ele_groups.proofs.Basics.{nat_tests, arith, take, take_more}
use Rattle.ele_groups.proofs.Entered.{come_more}
use Rattle.ele_groups.proofs.memberships.Memberships.enter.Goals as goal

pub loop-file-preserved : goal.loop-file-preserved
loop-file-preserved c = grind (arith, nat_tests, take_more c.args.files.now c.loop-file.file-index c.file-item.result c.loop-file-test.true, come_more c.file-item.result c.args.membership.now.name (take c.loop-file.file-index c.args.files.now) c.args.self.now c.loop-file.self c.insert.new.self c.loop-file.invariant c.in_ok-insert.ensures.ok)
