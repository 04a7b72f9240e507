use Rattle.std.proofs.Common.{◌∙◌, ap, not, refl}
use Rattle.ele_due.specs.HasKey.{has_key}
use Rattle.ele_due.proofs.Members.{has_key-insert_key}
use Rattle.ele_due.proofs.queue.DueQueue.insert.Goals as goal

pub returns-clause-members : goal.returns-clause-members
returns-clause-members c = rw (← c.self.view_is)
    (λ k. ap (has_key k) c.in_ok-_new.ensures.keys ∙ has_key-insert_key k c.args.key c.self.inside.keys.keys)

pub returns-clause-again : goal.returns-clause-again
returns-clause-again c = rw (← c.self.view_is)
    (λ there. (refl, rw (c.in_ok-_new.ensures.added ∙ ap not there) at c.in_ok-_new.ensures.unchanged))
