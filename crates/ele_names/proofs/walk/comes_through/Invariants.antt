use Rattle.ele_names.proofs.Lemmas.{◌≡◌, comes_through, root, Directory}
use Rattle.ele_names.proofs.walk.comes_through.Given as goal

abbrev pub invariant-loop-name : goal.invariant-loop-name
invariant-loop-name l = comes_through l.names l.id l.at l.name-iterator ≡ comes_through l.names l.id (Directory root) l.fn.path
