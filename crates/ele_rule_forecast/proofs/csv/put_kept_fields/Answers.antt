use Rattle.std.proofs.Common.{arith}
use Rattle.std.specs.Prelude.{codes}
use Rattle.ele_rule_forecast.specs.RuledCsv.{kept_field}
use Rattle.ele_output.proofs.Known.{put_last}
use Rattle.ele_forecast_text.proofs.Lines.{list_more_then, list_past}
use Rattle.ele_rule_forecast.proofs.csv.put_kept_fields.Goals as goal

pub loop-rule-preserved : goal.loop-rule-preserved
loop-rule-preserved g c =
    list_more_then (kept_field c.args.number) c.args.rules.now c.loop-rule.rule-index c.rule-item.result (codes "\n") (omega arith) c.rule-item.is c.loop-rule.invariant (rw c.reason_in.ensures at c.put_kept_by.ensures)

pub returns : goal.returns
returns g c = put_last (list_past (kept_field c.args.number) c.args.rules.now c.loop-rule.rule-index (codes "\n") c.loop-rule-test.false c.loop-rule.invariant) c.put.ensures
