use Rattle.ele_names.proofs.Lemmas.{◌≡◌, walk_covering, root, Directory}
use Rattle.ele_names.proofs.walk.walk_back.Given as goal

abbrev pub invariant-loop-name : goal.invariant-loop-name
invariant-loop-name l = walk_covering l.names l.moment l.at l.name-iterator ≡ walk_covering l.names l.moment (Directory root) l.fn.path
