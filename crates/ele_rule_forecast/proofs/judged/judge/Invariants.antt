use Rattle.std.specs.Prelude.{take}
use Rattle.ele_rule_forecast.specs.Judged.{AreJudged}
use Rattle.ele_rule_forecast.proofs.judged.judge.Given as goal

-- what the rules so far keep
abbrev pub invariant-loop-rule : goal.invariant-loop-rule
invariant-loop-rule l = AreJudged (take l.rule-index l.rules) l.rows l.moments l.judged.items
