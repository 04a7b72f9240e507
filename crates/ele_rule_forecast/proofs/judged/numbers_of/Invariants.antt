use Rattle.std.specs.Prelude.{◌≡◌, ◌++◌, ◌+◌, drop}
use Rattle.ele_rule_forecast.specs.Judged.{numbers_from, numbers_of}
use Rattle.ele_rule_forecast.proofs.judged.numbers_of.Given as goal

-- the numbers so far, and those of the others
abbrev pub invariant-loop-place : goal.invariant-loop-place
invariant-loop-place l = l.numbers.items ++ numbers_from (l.place + 1) (drop l.place l.reasons) ≡ numbers_of l.reasons
