use Rattle.std.proofs.Common.{◌≡◌, ◌++◌, ◌+◌, drop}
use Rattle.ele_forecast.specs.StaysBehind.{kept_from}
use Rattle.ele_forecast.proofs.closings.Closings.staying.Given as goal

abbrev pub invariant-loop-place : goal.invariant-loop-place
invariant-loop-place l = l.numbers.items ++ kept_from l.policy l.at (l.place + 1) (drop l.place l.come) ≡ kept_from l.policy l.at 1 l.come
