use Rattle.ele_removals.proofs.Basics.{arith}
use Rattle.ele_removals.specs.ExpiringText.{expiry_line}
use Rattle.ele_output.proofs.Lists.{list_done, list_more}
use Rattle.ele_removals.proofs.expiring_text.put_lines.Goals as goal

pub loop-row-preserved : goal.loop-row-preserved
loop-row-preserved g c = list_more expiry_line c.args.rows.now c.loop-row.row-index c.row-item.result (omega arith) c.row-item.is c.loop-row.invariant c.put_expiry.ensures

pub returns : goal.returns
returns g c = list_done expiry_line c.args.rows.now c.loop-row.row-index c.loop-row-test.false c.loop-row.invariant
