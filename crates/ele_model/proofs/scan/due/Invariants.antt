use Rattle.ele_model.proofs.Basics.{◌≡◌, take, filter_map}
use Rattle.ele_model.proofs.Words.{in_order, due_key}
use Rattle.ele_model.proofs.scan.due.Given as goal

abbrev pub invariant-loop-row : goal.invariant-loop-row
invariant-loop-row l = l.keys.keys ≡ in_order (filter_map (due_key l.world) (take l.row-index l.world.versions))
