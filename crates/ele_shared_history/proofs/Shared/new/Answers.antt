use Rattle.std.proofs.Common.{arith}
use Rattle.ele_shared_history.proofs.Rows.{all_dealt}
use Rattle.ele_shared_history.proofs.Shared.new.Goals as goal

pub returns-clause-ok : goal.returns-clause-ok
returns-clause-ok g c =
    let many = c.deal.ensures.many in
    (c.in_ok-shared.ensures.ok.0, omega arith, rw c.push_reserved.ensures.items (all_dealt c.in_ok-shared.shared c.deal.new.all.items c.deal.new.last c.deal.ensures.row))
