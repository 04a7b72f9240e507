use Rattle.ele_blocks.proofs.Cited.{arith, owned_new, room_after, room_in, sets_new}
use Rattle.ele_blocks.proofs.shared.Shared.put_reserved.Goals as goal

pub insert_reserved-id-requires : goal.insert_reserved-id-requires
insert_reserved-id-requires g c = grind (arith, room_in c.self.inside.values c.self.inside.owners.items 0)

pub invariant_of-self : goal.invariant_of-self
invariant_of-self g c = grind (arith, room_in c.self.inside.values c.self.inside.owners.items 0, owned_new c.self.inside.values.slots c.insert_reserved-id.new.self.slots c.self.inside.owners.items c.insert_reserved-id.result c.args.value)

pub returns-clause-sets : goal.returns-clause-sets
returns-clause-sets g c = grind (arith, room_in c.self.inside.values c.self.inside.owners.items 0, sets_new c.self.inside.values.slots c.insert_reserved-id.new.self.slots c.self.inside.owners.items c.insert_reserved-id.result c.args.value)

pub returns-clause-room : goal.returns-clause-room
returns-clause-room g c more room = room_after c.self.inside.values c.insert_reserved-id.new.self c.self.inside.owners.items c.insert_reserved-id.result c.insert_reserved-id.ensures.len c.insert_reserved-id.ensures.capacity more (rw (← c.self.view_is) at room)

pub returns-clause-owned : goal.returns-clause-owned
returns-clause-owned g c = invariant_of-self g c
