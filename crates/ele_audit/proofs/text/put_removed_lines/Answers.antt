use Rattle.ele_audit.proofs.Basics.{arith}
use Rattle.ele_audit.specs.AuditText.{removed_line}
use Rattle.ele_output.proofs.Lists.{list_done, list_more}
use Rattle.ele_audit.proofs.text.put_removed_lines.Goals as goal

pub loop-row-preserved : goal.loop-row-preserved
loop-row-preserved g c = list_more removed_line c.args.removed.now c.loop-row.row-index c.row-item.result (omega arith) c.row-item.is c.loop-row.invariant c.put_removed.ensures

pub returns : goal.returns
returns g c = list_done removed_line c.args.removed.now c.loop-row.row-index c.loop-row-test.false c.loop-row.invariant
