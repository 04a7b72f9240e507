use Rattle.std.specs.Prelude.{drop}
use Rattle.std.specs.List.{flat_map}
use Rattle.ele_output.specs.Prints.{outlet}
use Rattle.ele_svg_marks.specs.Mark.{mark_text}
use Rattle.ele_output.proofs.Known.{HasPut}
use Rattle.ele_svg_marks.proofs.mark.put_marks.Given as goal

-- the marks so far are put, and the others are left
abbrev pub invariant-loop-mark : goal.invariant-loop-mark
invariant-loop-mark g l =
    HasPut (outlet g.W.Write.contents l.fn.printer) (outlet g.W.Write.contents l.printer) (flat_map mark_text l.marks) (flat_map mark_text (drop l.mark-index l.marks))
