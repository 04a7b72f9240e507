use Rattle.ele_groups.proofs.Times.{timed_without}
use Rattle.ele_groups.proofs.marks.Marks.remove.Goals as goal

pub invariant_of-self : goal.invariant_of-self
invariant_of-self c = rw c.take_at.ensures
    (timed_without c.self.inside.made.items _ _ c.self.invariant c.args.moment _ c.seconds.ensures.value c.remove-was.ensures.updates.0)
