use Rattle.ele_groups.proofs.Basics.{arith, sym}
use Rattle.ele_groups.proofs.Words.{marks}
use Rattle.ele_groups.proofs.Named.{written, unwritten}
use Rattle.ele_groups.proofs.rows.mark_at.Goals as goal

pub returns-in-Some-clause-ok : goal.returns-in-Some-clause-ok
returns-in-Some-clause-ok c = grind (arith, c.get_mut.follows.holds c.mark.new.self, c.mark.ensures.ok, written c.args.name.now (marks c.args.mark.now) c.args.rows.now.entries c.in-Some.group.now, c.in-Some.ensures.value)

pub returns-in-None-clause-ok : goal.returns-in-None-clause-ok
returns-in-None-clause-ok c = rw c.get_mut.follows.holds-at-none (unwritten c.args.name.now (marks c.args.mark.now) c.args.rows.now.entries (sym c.in-None.ensures.value))
