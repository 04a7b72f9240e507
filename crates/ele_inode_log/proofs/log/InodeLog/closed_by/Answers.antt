use Rattle.ele_inode_log.proofs.Order.{closings_sink}
use Rattle.ele_inode_log.proofs.log.InodeLog.closed_by.Goals as goal

pub last_before-requires : goal.last_before-requires
last_before-requires c = closings_sink c.args.moment c.self.inside.rows.rows c.self.invariant
