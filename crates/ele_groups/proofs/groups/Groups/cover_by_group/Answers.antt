use Rattle.ele_groups.proofs.Basics.{refl}
use Rattle.ele_groups.proofs.Named.{found}
use Rattle.ele_groups.proofs.groups.Groups.cover_by_group.Goals as goal

pub returns : goal.returns
returns c = rw (← c.self.view_is, found c.args.name.now c.self.inside.rows.entries c.self.invariant.named, c.cover_at.ensures) refl
