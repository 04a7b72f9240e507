use Rattle.ele_groups.proofs.Basics.{refl}
use Rattle.ele_groups.proofs.Named.{found}
use Rattle.ele_groups.proofs.groups.Groups.is_member.Goals as goal

pub returns : goal.returns
returns c = rw (← c.self.view_is, found c.args.name.now c.self.inside.rows.entries c.self.invariant.named, c.has.ensures, c.self.invariant.placed.each c.args.file c.args.name.now) refl
