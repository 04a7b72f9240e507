use Rattle.std.proofs.Common.{arith}
use Rattle.ele_output.proofs.Lists.{list_done, list_more}
use Rattle.ele_space.specs.AmountsText.{amounts_line}
use Rattle.ele_space.proofs.text.put_rows.Goals as goal

pub loop-row-preserved : goal.loop-row-preserved
loop-row-preserved g c =
    list_more (amounts_line c.args.mark c.args.sizes) c.args.rows.now c.loop-row.row-index c.row-item.result (omega arith) c.row-item.is c.loop-row.invariant c.put_row.ensures

pub returns : goal.returns
returns g c = list_done (amounts_line c.args.mark c.args.sizes) c.args.rows.now c.loop-row.row-index c.loop-row-test.false c.loop-row.invariant
