use Rattle.ele_model.proofs.Basics.{◌≡◌, map, take}
use Rattle.ele_model.specs.Restorable.{row_of}
use Rattle.ele_model.proofs.list.deleted_names.Given as goal

abbrev pub invariant-loop-triple : goal.invariant-loop-triple
invariant-loop-triple l = l.names.items ≡ map row_of (take l.triple-index l.triples)
