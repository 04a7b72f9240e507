use Rattle.std.specs.Prelude.{◌≡◌, length}
use Rattle.std.specs.List.{list_any}
use Rattle.ele_outlook.specs.Input.{lines_of}
use Rattle.ele_outlook.specs.Unplaced.{line_lacks_offset}
use Rattle.ele_outlook.proofs.unplaced.some_lacks_offset.Given as goal

-- none of the lines so far lacks an offset
abbrev pub invariant-lines : goal.invariant-lines
invariant-lines l = list_any (line_lacks_offset l.form) (lines_of l.input) ≡ list_any (line_lacks_offset l.form) (lines_of l.rest)

abbrev pub decreases-lines : goal.decreases-lines
decreases-lines l = length l.rest
