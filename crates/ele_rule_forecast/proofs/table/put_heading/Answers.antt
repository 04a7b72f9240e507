use Rattle.std.proofs.Common.{arith}
use Rattle.std.specs.Prelude.{codes}
use Rattle.ele_rule_forecast.specs.RuledTable.{rule_column}
use Rattle.ele_output.proofs.Known.{put_last, puts_then}
use Rattle.ele_forecast_text.proofs.Lines.{list_more_then, list_past, put_start}
use Rattle.ele_rule_forecast.proofs.table.put_heading.Goals as goal

pub loop-rule-init : goal.loop-rule-init
loop-rule-init g c = put_start (puts_then c.put.ensures (puts_then c.put_headings.ensures (puts_then c.put-2.ensures c.put_policies.ensures)))

pub loop-rule-preserved : goal.loop-rule-preserved
loop-rule-preserved g c =
    list_more_then rule_column c.args.rules.now c.loop-rule.rule-index c.rule-item.result (codes "\n") (omega arith) c.rule-item.is c.loop-rule.invariant (rw c.as_slice.ensures.value at c.put_word.ensures)

pub returns : goal.returns
returns g c = put_last (list_past rule_column c.args.rules.now c.loop-rule.rule-index (codes "\n") c.loop-rule-test.false c.loop-rule.invariant) c.put-3.ensures
