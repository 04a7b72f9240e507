use Rattle.std.specs.Prelude.{drop}
use Rattle.ele_output.specs.Prints.{outlet}
use Rattle.ele_svg_marks.specs.Labels.{label_drawn, labels_drawn}
use Rattle.ele_svg_marks.specs.Shelves.{shelved}
use Rattle.ele_svg_marks.specs.Walk.{walked}
use Rattle.ele_output.proofs.Known.{HasPut}
use Rattle.ele_svg_marks.proofs.labels.put_labels.Given as goal

-- the labels so far are put, and the others are left
abbrev pub invariant-loop-staying : goal.invariant-loop-staying
invariant-loop-staying g l =
    HasPut (outlet g.W.Write.contents l.fn.printer) (outlet g.W.Write.contents l.printer) (labels_drawn l.page l.stayings) (walked (label_drawn l.page) (shelved l.page) l.shelves (drop l.staying-index l.stayings))
