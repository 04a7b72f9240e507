use Rattle.ele_model.proofs.Basics.{◌≡◌, take}
use Rattle.ele_model.proofs.copy.copy_groups.Given as goal

abbrev pub invariant-loop-group : goal.invariant-loop-group
invariant-loop-group l = l.rows.items ≡ take l.group-index l.groups
