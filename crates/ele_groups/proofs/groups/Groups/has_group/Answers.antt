use Rattle.std.proofs.Common.{sym}
use Rattle.ele_groups.proofs.Named.{any_found}
use Rattle.ele_groups.proofs.groups.Groups.has_group.Goals as goal

pub returns : goal.returns
returns c = rw (← c.self.view_is, c.contains_key.ensures) (sym (any_found c.args.name.now c.self.inside.rows.entries c.self.invariant.named))
