use Rattle.ele_groups.proofs.Kept.{kept_pushed, pushed_rows, unnamed}
use Rattle.ele_groups.proofs.groups.Groups.add_group.Goals as goal

pub invariant_of-self-2 : goal.invariant_of-self-2
invariant_of-self-2 c =
    kept_pushed _ _ c.self.invariant c.args.name.now _ (rw c.new.ensures at c.in_ok-insert.ensures.entries) c.insert.ensures.unique (rw c.new.ensures at c.in_ok-insert.ensures.updates.0)
    (unnamed _ _ c.self.invariant c.args.name.now (rw (← c.self.view_is) at c.requires))

pub returns-clause-ok : goal.returns-clause-ok
returns-clause-ok c = rw (← c.self.view_is, c.in_ok-insert.ensures.entries) (pushed_rows _ _ c.self.invariant c.args.name.now c.new.result c.new.ensures (unnamed _ _ c.self.invariant c.args.name.now (rw (← c.self.view_is) at c.requires)))
