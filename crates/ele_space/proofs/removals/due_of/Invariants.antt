use Rattle.std.specs.Prelude.{take}
use Rattle.std.specs.List.{AllZip}
use Rattle.ele_space.specs.Removals.{IsDueThen}
use Rattle.ele_space.proofs.removals.due_of.Given as goal

-- those of the moments so far
abbrev pub invariant-loop-staying : goal.invariant-loop-staying
invariant-loop-staying l = AllZip (IsDueThen l.forecasts) (take l.staying-index l.stayings) l.due.items
