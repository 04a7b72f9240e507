use Rattle.ele_model.proofs.Basics.{◌≡◌, take}
use Rattle.ele_model.proofs.copy.copy_names.Given as goal

abbrev pub invariant-loop-name : goal.invariant-loop-name
invariant-loop-name l = l.rows.items ≡ take l.name-index l.names
