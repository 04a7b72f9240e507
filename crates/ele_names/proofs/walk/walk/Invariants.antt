use Rattle.ele_names.proofs.Lemmas.{◌≡◌, walk, walk_now}
use Rattle.ele_names.proofs.walk.walk.Given as goal

abbrev pub invariant-loop-name : goal.invariant-loop-name
invariant-loop-name l = walk l.names l.at l.name-iterator ≡ walk_now l.names l.fn.path
