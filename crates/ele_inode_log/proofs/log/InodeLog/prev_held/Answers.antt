use Rattle.ele_inode_log.specs.declared.row.VersionRow.{VersionRow}
use Rattle.ele_inode_log.proofs.Order.{before_sinks, numbers_rise}
use Rattle.ele_inode_log.proofs.log.InodeLog.prev_held.Goals as goal

pub last_before-requires : goal.last_before-requires
last_before-requires c = before_sinks (λ (row : VersionRow). row.number) c.number.inside.0 c.self.inside.rows.rows (numbers_rise c.self.inside.rows.rows c.self.invariant)
