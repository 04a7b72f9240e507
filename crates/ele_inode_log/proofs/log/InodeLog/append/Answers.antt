use Rattle.std.proofs.Common.{ap}
use Rattle.ele_inode_log.proofs.Order.{in_order_pushed}
use Rattle.ele_inode_log.proofs.log.InodeLog.append.Goals as goal

pub invariant_of-self-2 : goal.invariant_of-self-2
invariant_of-self-2 c = rw (c.push.ensures, c.reserve.ensures.rows) (in_order_pushed c.self.inside.rows.rows c.args.row c.self.invariant (rw (ap (λ v. v.rows) c.self.view_is) c.requires.last) c.requires.ends)
