use Rattle.ele_blocks.proofs.Cited.{arith, ◌≡◌}
use Rattle.ele_blocks.proofs.LaidOvers.{laid_alone}
use Rattle.ele_blocks.proofs.Makings.{leaves_few, map_leaves, map_short, map_shows}
use Rattle.ele_blocks.proofs.map.BlockMap.of_slots.Goals as goal
use Rattle.ele_blocks.proofs.map.BlockMap.of_slots.Goals.{After-lay}

pub lay-requires-clause-room : goal.lay-requires-clause-room
lay-requires-clause-room c = grind (arith, leaves_few c.args.store.now c.put_slots.new.self c.args.size c.args.slots.items c.requires.whole c.in_ok-leaves.leaves.items c.in_ok-leaves.ensures.put)

-- the list has the leaves that were put
same : (c : After-lay) → c.lay.new.self.items ≡ c.in_ok-leaves.leaves.items
same c = grind (arith, laid_alone c.in_ok-leaves.leaves.items)

pub invariant_of-result : goal.invariant_of-result
invariant_of-result c = record {
  short = map_short c.args.store.now c.put_slots.new.self c.args.size c.args.slots.items c.requires.whole c.in_ok-leaves.leaves.items c.in_ok-leaves.ensures.put (record { size = c.lay.new.self.size; leaves = c.lay.new.self.items }) c.lay.ensures.size (same c) c.requires.short;
  leaves = map_leaves c.args.store.now c.put_slots.new.self c.args.size c.args.slots.items c.requires.whole c.in_ok-leaves.leaves.items c.in_ok-leaves.ensures.put (record { size = c.lay.new.self.size; leaves = c.lay.new.self.items }) c.lay.ensures.size (same c) c.requires.short;
}

pub returns-clause-made : goal.returns-clause-made
returns-clause-made c = map_shows c.args.store.now c.put_slots.new.self c.args.size c.args.slots.items c.requires.whole c.in_ok-leaves.leaves.items c.in_ok-leaves.ensures.put (record { size = c.lay.new.self.size; leaves = c.lay.new.self.items }) c.lay.ensures.size (same (goal.at.returns-clause-made c).After-lay) c.requires.short
