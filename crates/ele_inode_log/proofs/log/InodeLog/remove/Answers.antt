use Rattle.std.proofs.Common.{◌∙◌}
use Rattle.ele_inode_log.specs.declared.row.VersionRow.{VersionRow}
use Rattle.ele_inode_log.proofs.Order.{numbers_rise, remove_first_key}
use Rattle.ele_inode_log.proofs.log.InodeLog.remove.Goals as goal

pub returns-in_err-row-clause-rows : goal.returns-in_err-row-clause-rows
returns-in_err-row-clause-rows c = rw (← c.self.view_is, ← c.number.view_is) (c.remove.ensures.rows ∙ remove_first_key (λ (row : VersionRow). row.number) c.number.inside.0 c.self.inside.rows.rows (numbers_rise c.self.inside.rows.rows c.self.invariant))

pub returns-clause-rows : goal.returns-clause-rows
returns-clause-rows c = rw (← c.self.view_is, ← c.number.view_is) (c.remove.ensures.rows ∙ remove_first_key (λ (row : VersionRow). row.number) c.number.inside.0 c.self.inside.rows.rows (numbers_rise c.self.inside.rows.rows c.self.invariant))
