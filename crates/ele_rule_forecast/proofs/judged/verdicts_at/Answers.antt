use Rattle.std.proofs.Common.{ℕ}
use Rattle.ele_rule_forecast.specs.Judged.{IsVerdict}
use Rattle.ele_rule_forecast.specs.declared.judged.Verdict.{Verdict}
use Rattle.ele_rule_forecast.proofs.Verdicts.{zip_more}
use Rattle.ele_rule_forecast.proofs.judged.verdicts_at.Goals as goal

pub loop-at-preserved : goal.loop-at-preserved
loop-at-preserved c =
    rw c.in_ok-push.ensures.items (zip_more (λ (at : ℕ) (verdict : Verdict). IsVerdict c.args.rule.now c.args.rows.now at verdict) c.args.moments.now c.loop-at.at-index c.at-item.result c.loop-at.verdicts.items c.in_ok-verdict_of.field-0 c.loop-at-test.true c.at-item.is c.loop-at.invariant c.in_ok-verdict_of.ensures)
