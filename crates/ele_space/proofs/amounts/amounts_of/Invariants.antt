use Rattle.std.specs.Prelude.{take}
use Rattle.std.specs.List.{AllZip}
use Rattle.ele_space.specs.Amounts.{IsAmount}
use Rattle.ele_space.proofs.amounts.amounts_of.Given as goal

-- those of the plans so far
abbrev pub invariant-loop-plan : goal.invariant-loop-plan
invariant-loop-plan l = AllZip (IsAmount l.closings l.sizes l.at) (take l.plan-index l.plans) l.amounts.items
