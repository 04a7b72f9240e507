use Rattle.ele_groups.proofs.Basics.{sym, arith}
use Rattle.ele_groups.proofs.Words.{unmarks}
use Rattle.ele_groups.proofs.Named.{written, unwritten}
use Rattle.ele_groups.proofs.rows.unmark_at.Goals as goal

pub returns-in-Some : goal.returns-in-Some
returns-in-Some c = grind (arith, c.get_mut.follows.holds c.unmark.new.self, c.unmark.ensures, written c.args.name.now (unmarks c.args.moment) c.args.rows.now.entries c.in-Some.group.now, c.in-Some.ensures.value)

pub returns-in_default : goal.returns-in_default
returns-in_default c = rw c.get_mut.follows.holds-at-none (unwritten c.args.name.now (unmarks c.args.moment) c.args.rows.now.entries (sym c.in_default.ensures.value))
