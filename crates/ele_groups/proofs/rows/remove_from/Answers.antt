use Rattle.ele_groups.proofs.Basics.{sym, arith}
use Rattle.ele_groups.proofs.Words.{removes, forgets}
use Rattle.ele_groups.proofs.Named.{written, unwritten}
use Rattle.ele_groups.proofs.rows.remove_from.Goals as goal

pub returns-in-Some-clause-removes : goal.returns-in-Some-clause-removes
returns-in-Some-clause-removes c = grind (arith, c.get_mut.follows.holds c.remove.new.self, c.remove.ensures.removes, written c.args.name.now (removes c.args.file) c.args.rows.now.entries c.in-Some.group.now, c.in-Some.ensures.value)

pub returns-in-Some-clause-forgets : goal.returns-in-Some-clause-forgets
returns-in-Some-clause-forgets c = grind (arith, c.get_mut.follows.holds c.remove.new.self, c.remove.ensures.forgets, written c.args.name.now (forgets c.args.file) c.args.rows.now.entries c.in-Some.group.now, c.in-Some.ensures.value)

pub returns-in_default-clause-removes : goal.returns-in_default-clause-removes
returns-in_default-clause-removes c = rw c.get_mut.follows.holds-at-none (unwritten c.args.name.now (removes c.args.file) c.args.rows.now.entries (sym c.in_default.ensures.value))

pub returns-in_default-clause-forgets : goal.returns-in_default-clause-forgets
returns-in_default-clause-forgets c = rw c.get_mut.follows.holds-at-none (unwritten c.args.name.now (forgets c.args.file) c.args.rows.now.entries (sym c.in_default.ensures.value))
