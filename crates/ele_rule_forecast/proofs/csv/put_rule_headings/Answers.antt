use Rattle.std.proofs.Common.{arith}
use Rattle.std.specs.Prelude.{codes}
use Rattle.ele_rule_forecast.specs.RuledCsv.{rule_heading}
use Rattle.ele_rule_forecast.specs.declared.judged.Judged.{Judged}
use Rattle.ele_output.proofs.Known.{put_last}
use Rattle.ele_forecast_text.proofs.Lines.{list_more_then, list_past}
use Rattle.ele_rule_forecast.proofs.csv.put_rule_headings.Goals as goal

pub loop-rule-preserved : goal.loop-rule-preserved
loop-rule-preserved g c =
    list_more_then (λ (judged : Judged). rule_heading judged.word.items) c.args.rules.now c.loop-rule.rule-index c.rule-item.result (codes "\n") (omega arith) c.rule-item.is c.loop-rule.invariant (rw c.as_slice.ensures.value at c.put_rule_heading.ensures)

pub returns : goal.returns
returns g c = put_last (list_past (λ (judged : Judged). rule_heading judged.word.items) c.args.rules.now c.loop-rule.rule-index (codes "\n") c.loop-rule-test.false c.loop-rule.invariant) c.put.ensures
