use Rattle.ele_inode_log.specs.declared.row.VersionRow.{VersionRow}
use Rattle.ele_inode_log.proofs.Order.{behind_sinks, numbers_rise}
use Rattle.ele_inode_log.proofs.log.InodeLog.next_held.Goals as goal

pub first_behind-requires : goal.first_behind-requires
first_behind-requires c = behind_sinks (λ (row : VersionRow). row.number) c.number.inside.0 c.self.inside.rows.rows (numbers_rise c.self.inside.rows.rows c.self.invariant)
