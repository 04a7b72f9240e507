use Rattle.ele_audit.proofs.Basics.{arith}
use Rattle.ele_audit.proofs.Texts.{answered_all, answered_more, answered_none}
use Rattle.ele_output.specs.Prints.{outlet}
use Rattle.ele_audit.proofs.text.put_each_answer.Goals as goal

pub loop-entry-init : goal.loop-entry-init
loop-entry-init g c = answered_none (outlet g.W.Write.contents c.args.printer.now) c.args.entries.now

pub loop-entry-preserved : goal.loop-entry-preserved
loop-entry-preserved g c = answered_more c.args.entries.now c.loop-entry.entry-index c.entry-item.result c.put_entry.ensures.0 (omega arith) c.entry-item.is c.put_entry.ensures.1 c.loop-entry.invariant c.put_entry.ensures.2

pub returns : goal.returns
returns g c = answered_all c.args.entries.now c.loop-entry.entry-index c.loop-entry-test.false c.loop-entry.invariant
