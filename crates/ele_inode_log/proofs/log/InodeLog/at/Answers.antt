use Rattle.std.proofs.Common.{arith}
use Rattle.ele_inode_log.proofs.Order.{all_place, lives_alone}
use Rattle.ele_inode_log.proofs.log.InodeLog.at.Goals as goal

pub returns-clause-only : goal.returns-clause-only
returns-clause-only c = λ k d h lives. grind (arith, c.number_at.ensures, c.closed_by.ensures.lives, all_place _ c.args.self.now.rows k d (lives_alone c.args.moment c.args.self.now.rows c.closed_by.ensures.order.order) h lives)
