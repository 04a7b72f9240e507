use Rattle.std.specs.Prelude.{take}
use Rattle.std.specs.List.{AllZip}
use Rattle.ele_space.specs.Removals.{AreRemovals}
use Rattle.ele_space.proofs.removals.removals_of.Given as goal

-- those of the plans so far
abbrev pub invariant-loop-plan : goal.invariant-loop-plan
invariant-loop-plan l = AllZip AreRemovals (take l.plan-index l.plans) l.removals.items
