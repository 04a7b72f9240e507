use Rattle.ele_groups.proofs.Times.{timed_with}
use Rattle.ele_groups.proofs.marks.Marks.add.Goals as goal

pub invariant_of-self-2 : goal.invariant_of-self-2
invariant_of-self-2 c = rw (c.push_copy.ensures, c.reserve.ensures.items)
    (timed_with c.self.inside.made.items _ _ c.self.invariant c.args.mark.now (rw (← c.self.view_is) at c.requires) c.in_ok-put_at.ensures.ok)
