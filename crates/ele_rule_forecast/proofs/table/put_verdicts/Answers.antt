use Rattle.std.proofs.Common.{arith}
use Rattle.ele_rule_forecast.specs.RuledTable.{verdict_line}
use Rattle.ele_output.proofs.Lists.{list_done, list_more}
use Rattle.ele_rule_forecast.proofs.table.put_verdicts.Goals as goal

pub loop-verdict-preserved : goal.loop-verdict-preserved
loop-verdict-preserved g c =
    list_more (verdict_line c.args.details.now c.args.word.now) c.args.verdicts.now c.loop-verdict.verdict-index c.verdict-item.result (omega arith) c.verdict-item.is c.loop-verdict.invariant c.put_verdict.ensures

pub returns : goal.returns
returns g c = list_done (verdict_line c.args.details.now c.args.word.now) c.args.verdicts.now c.loop-verdict.verdict-index c.loop-verdict-test.false c.loop-verdict.invariant
