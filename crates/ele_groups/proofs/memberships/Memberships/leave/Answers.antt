use Rattle.ele_groups.proofs.Basics.{nat_tests, arith, take, take_more}
use Rattle.ele_groups.proofs.Members.{left_more}
use Rattle.ele_groups.proofs.memberships.Memberships.leave.Goals as goal

pub loop-file-preserved : goal.loop-file-preserved
loop-file-preserved c = grind (arith, nat_tests, take_more c.args.files.now c.loop-file.file-index c.file-item.result c.loop-file-test.true, left_more c.file-item.result c.args.name.now (take c.loop-file.file-index c.args.files.now) c.args.self.now c.loop-file.self c.remove.new.self c.loop-file.invariant c.remove.ensures)
