use Rattle.std.proofs.Common.{arith}
use Rattle.ele_output.proofs.Lists.{list_done, list_more}
use Rattle.ele_against.specs.ComparedCsv.{row_text}
use Rattle.ele_against.proofs.csv.put_rows.Goals as goal

pub loop-number-preserved : goal.loop-number-preserved
loop-number-preserved g c =
    list_more (row_text c.args.details.now c.args.word.now c.args.group.now) c.args.numbers.now c.loop-number.number-index c.number-item.result (omega arith) c.number-item.is c.loop-number.invariant c.put_row.ensures

pub returns : goal.returns
returns g c = list_done (row_text c.args.details.now c.args.word.now c.args.group.now) c.args.numbers.now c.loop-number.number-index c.loop-number-test.false c.loop-number.invariant
