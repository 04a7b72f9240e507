use Rattle.std.specs.Prelude.{drop}
use Rattle.ele_output.specs.Prints.{outlet}
use Rattle.ele_svg_marks.specs.Escaped.{begun_after, escaped, escaped_at}
use Rattle.ele_svg_marks.specs.Walk.{walked}
use Rattle.ele_output.proofs.Known.{HasPut}
use Rattle.ele_svg_marks.proofs.head.put_escaped.Given as goal

-- the bytes so far are put, and the others are left
abbrev pub invariant-loop-byte : goal.invariant-loop-byte
invariant-loop-byte g l =
    HasPut (outlet g.W.Write.contents l.fn.printer) (outlet g.W.Write.contents l.printer) (escaped l.title) (walked escaped_at begun_after l.begun (drop l.byte-index l.title))
