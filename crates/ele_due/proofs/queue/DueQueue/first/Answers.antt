use Rattle.std.proofs.Common.{arith}
use Rattle.ele_due.proofs.Ordered.{first_ripe, ripe_in_order}
use Rattle.ele_due.proofs.queue.DueQueue.first.Goals as goal

pub returns-clause-ripe : goal.returns-clause-ripe
returns-clause-ripe c = rw (← c.self.view_is) (λ moment ripe same. let keys = c.self.inside.keys.keys in grind (arith, ripe_in_order moment keys ripe c.self.invariant same, first_ripe moment keys c.self.invariant, c.first_key.ensures))
