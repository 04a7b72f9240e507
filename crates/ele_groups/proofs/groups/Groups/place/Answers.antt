use Rattle.std.proofs.Common.{sym}
use Rattle.ele_groups.proofs.Named.{any_found}
use Rattle.ele_groups.proofs.groups.Groups.place.Goals as goal

pub returns : goal.returns
returns c = rw (← c.self.view_is, c.get_index_of.ensures.found) (sym (any_found c.args.name.now c.self.inside.rows.entries c.self.invariant.named))
