use Rattle.ele_audit.proofs.Basics.{List, ℕ, ◌∷◌, drop, flat_map}
use Rattle.ele_output.specs.Prints.{outlet}
use Rattle.ele_path.specs.PathText.{path_word}
use Rattle.ele_output.proofs.Known.{HasPut}
use Rattle.ele_audit.proofs.text.put_names.Given as goal

-- the names so far are put, and the others are left
abbrev pub invariant-loop-name : goal.invariant-loop-name
invariant-loop-name g l =
    HasPut (outlet g.W.Write.contents l.fn.printer) (outlet g.W.Write.contents l.printer) (32 ∷ path_word l.names) (flat_map (λ (name : List ℕ). 47 ∷ name) (drop l.name-index l.names))
