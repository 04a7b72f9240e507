use Rattle.std.proofs.Common.{arith}
use Rattle.ele_due.proofs.Keys.{is_key-sym}
use Rattle.ele_due.proofs.queue.DueQueue.remove.Goals as goal

pub returns-clause-members : goal.returns-clause-members
returns-clause-members c = rw (← c.self.view_is) (λ k. grind (arith, c.remove.ensures.updates.0 k, is_key-sym c.args.key.now k))
