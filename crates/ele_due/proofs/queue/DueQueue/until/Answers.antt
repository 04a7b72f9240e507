use Rattle.std.proofs.Common.{◌∙◌}
use Rattle.ele_due.proofs.Ordered.{ripe_in_front, ripe_in_order}
use Rattle.ele_due.proofs.queue.DueQueue.until.Goals as goal

pub returns-clause-keys : goal.returns-clause-keys
returns-clause-keys c = rw (← c.self.view_is) (c.in_ok-ripe_keys.ensures ∙ ripe_in_front c.args.moment c.self.inside.keys.keys c.self.invariant)

pub returns-clause-only : goal.returns-clause-only
returns-clause-only c = rw (← c.self.view_is) (λ ripe same. let keys = c.self.inside.keys.keys in c.in_ok-ripe_keys.ensures ∙ (ripe_in_front c.args.moment keys c.self.invariant ∙ ripe_in_order c.args.moment keys ripe c.self.invariant same))
