use Rattle.std.proofs.Common.{◌≡◌, drop}
use Rattle.std.specs.List.{fold}
use Rattle.ele_svg.specs.Summary.{last_of_plan}
use Rattle.ele_svg.proofs.summary.last_of_all.Given as goal

-- the other policies are left
abbrev pub invariant-loop-plan : goal.invariant-loop-plan
invariant-loop-plan l = fold last_of_plan l.last (drop l.plan-index l.plans) ≡ fold last_of_plan l.fn.first l.plans
