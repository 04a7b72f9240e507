use Rattle.ele_well_formed.proofs.Words.{AllByRecursion, take}
use Rattle.ele_model.specs.WellFormed.{IsGroup}
use Rattle.ele_well_formed.proofs.groups.wrong_group.Given as goal

abbrev pub invariant-loop-at : goal.invariant-loop-at
invariant-loop-at l = AllByRecursion (IsGroup l.files l.moment) (take l.at l.rows)
