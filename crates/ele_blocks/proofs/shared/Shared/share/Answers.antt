use Rattle.ele_blocks.proofs.Cited.{arith, get_or_default_zero, is_counted, room_same, sets_more, ◌+◌}
use Rattle.ele_blocks.proofs.shared.Shared.share.Goals as goal

pub returns-clause-sets : goal.returns-clause-sets
returns-clause-sets g c = grind (arith, is_counted c.self.inside.values.slots c.self.inside.owners.items c.args.id, get_or_default_zero, sets_more c.self.inside.values.slots c.self.inside.owners.items c.args.id)

pub returns-clause-room : goal.returns-clause-room
returns-clause-room g c more room = room_same c.self.inside.values c.self.inside.owners.items c.args.id (c.index_mut.result.now + 1) more (rw (← c.self.view_is) at room)
