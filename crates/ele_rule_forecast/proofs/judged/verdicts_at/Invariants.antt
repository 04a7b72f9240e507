use Rattle.std.specs.Prelude.{take}
use Rattle.ele_rule_forecast.specs.Judged.{AreVerdicts}
use Rattle.ele_rule_forecast.proofs.judged.verdicts_at.Given as goal

-- the verdicts of the moments so far
abbrev pub invariant-loop-at : goal.invariant-loop-at
invariant-loop-at l = AreVerdicts l.rule l.rows (take l.at-index l.moments) l.verdicts.items
