use Rattle.std.proofs.Common.{arith}
use Rattle.ele_rule_forecast.specs.RuledTable.{verdict_lines}
use Rattle.ele_output.proofs.Lists.{list_done, list_more}
use Rattle.ele_forecast_text.proofs.Lines.{put_next, put_start}
use Rattle.ele_rule_forecast.proofs.table.put_ruled.Goals as goal

pub loop-rule-init : goal.loop-rule-init
loop-rule-init g c = put_next (put_next (put_start c.put_heading.ensures) (rw c.versions_of.ensures at c.put_versions.ensures)) c.put_stayings.ensures

pub loop-rule-preserved : goal.loop-rule-preserved
loop-rule-preserved g c =
    list_more (verdict_lines c.args.details.now) c.args.rules.now c.loop-rule.rule-index c.rule-item.result (omega arith) c.rule-item.is c.loop-rule.invariant (rw (c.as_slice.ensures.value, c.as_slice-in-loop-rule.ensures.value) at c.put_verdicts.ensures)

pub returns : goal.returns
returns g c = list_done (verdict_lines c.args.details.now) c.args.rules.now c.loop-rule.rule-index c.loop-rule-test.false c.loop-rule.invariant
