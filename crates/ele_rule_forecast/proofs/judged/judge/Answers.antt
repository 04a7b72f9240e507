use Rattle.ele_rule_forecast.specs.Judged.{IsJudged}
use Rattle.ele_rule_forecast.specs.declared.judged.AskedRule.{AskedRule}
use Rattle.ele_rule_forecast.specs.declared.judged.Judged.{Judged}
use Rattle.ele_rule_forecast.proofs.Verdicts.{zip_more}
use Rattle.ele_rule_forecast.proofs.judged.judge.Goals as goal

pub loop-rule-preserved : goal.loop-rule-preserved
loop-rule-preserved c =
    rw c.in_ok-push.ensures.items (zip_more (λ (rule : AskedRule) (judged : Judged). IsJudged rule c.args.rows.now c.args.moments.now judged) c.args.rules.now c.loop-rule.rule-index c.rule-item.result c.loop-rule.judged.items c.in_ok-judge_by.field-0 c.loop-rule-test.true c.rule-item.is c.loop-rule.invariant c.in_ok-judge_by.ensures)
