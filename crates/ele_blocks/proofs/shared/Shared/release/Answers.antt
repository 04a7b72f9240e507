use Rattle.ele_blocks.proofs.Cited.{arith, get_or_default_zero, is_counted, leaves_with_last, owned_gone, owners-counted, sets_gone, sets_less}
use Rattle.ele_blocks.proofs.shared.Shared.release.Goals as goal

pub returns-then-index-gt1-clause-sets : goal.returns-then-index-gt1-clause-sets
returns-then-index-gt1-clause-sets g c = grind (arith, is_counted, get_or_default_zero, sets_less c.self.inside.values.slots c.self.inside.owners.items c.args.id)

pub invariant_of-self-2 : goal.invariant_of-self-2
invariant_of-self-2 g c = grind (arith, is_counted c.self.inside.values.slots c.self.inside.owners.items c.args.id, get_or_default_zero, owners-counted c.self.inside.values.slots c.self.inside.owners.items c.args.id, owned_gone c.self.inside.values.slots c.try_remove.new.self.slots c.self.inside.owners.items c.args.id)

pub returns-clause-sets : goal.returns-clause-sets
returns-clause-sets g c = grind (arith, is_counted c.self.inside.values.slots c.self.inside.owners.items c.args.id, get_or_default_zero, owners-counted c.self.inside.values.slots c.self.inside.owners.items c.args.id, sets_gone c.self.inside.values.slots c.try_remove.new.self.slots c.self.inside.owners.items c.args.id)

pub returns-clause-last : goal.returns-clause-last
returns-clause-last g c = grind (arith, is_counted c.self.inside.values.slots c.self.inside.owners.items c.args.id, get_or_default_zero, owners-counted c.self.inside.values.slots c.self.inside.owners.items c.args.id, leaves_with_last c.self.inside.values.slots c.self.inside.owners.items c.args.id)
