use Rattle.std.specs.Prelude.{◌≡◌, ℕ, List, take}
use Rattle.ele_against.specs.Compared.{is_among}
use Rattle.ele_against.specs.Names.{has}
use Rattle.ele_against.proofs.compared.names_in.Given as goal

-- the names are those of the labels so far
abbrev pub invariant-loop-label : goal.invariant-loop-label
invariant-loop-label l = (text : List ℕ) → has l.names text ≡ is_among (take l.label-index l.labels) text
