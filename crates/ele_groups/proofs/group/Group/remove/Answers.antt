use Rattle.ele_groups.proofs.Basics.{refl}
use Rattle.ele_groups.proofs.Apart.{any_removed, filtered}
use Rattle.ele_groups.proofs.group.Group.remove.Goals as goal

pub returns-clause-forgets : goal.returns-clause-forgets
returns-clause-forgets c = rw (← c.self.view_is, c.take_out.ensures, filtered c.args.file c.self.inside.members.items c.self.invariant) refl

pub returns-clause-members : goal.returns-clause-members
returns-clause-members c = rw (← c.self.view_is, c.take_out.ensures) (λ other. any_removed c.args.file other c.self.inside.members.items c.self.invariant)
