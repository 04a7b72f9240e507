use Rattle.std.specs.Prelude.{◌≡◌, ◌++◌, length}
use Rattle.ele_outlook.specs.Input.{lines_of}
use Rattle.ele_outlook.specs.Parts.{texts_of}
use Rattle.ele_outlook.proofs.against.labels_in.Given as goal

-- the labels so far are the lines so far
abbrev pub invariant-lines : goal.invariant-lines
invariant-lines l = lines_of l.text ≡ texts_of l.labels.items ++ lines_of l.rest

abbrev pub decreases-lines : goal.decreases-lines
decreases-lines l = length l.rest
