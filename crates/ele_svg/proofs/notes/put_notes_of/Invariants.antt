use Rattle.std.specs.Prelude.{drop}
use Rattle.std.specs.List.{flat_map}
use Rattle.ele_forecast_text.specs.declared.staying.Staying.{Staying}
use Rattle.ele_output.specs.Prints.{outlet}
use Rattle.ele_svg.specs.Notes.{note_marks, notes_of_plan}
use Rattle.ele_svg_marks.specs.Mark.{mark_text}
use Rattle.ele_output.proofs.Known.{HasPut}
use Rattle.ele_svg.proofs.notes.put_notes_of.Given as goal

-- those so far are put, and the others are left
abbrev pub invariant-loop-staying : goal.invariant-loop-staying
invariant-loop-staying g l =
    HasPut (outlet g.W.Write.contents l.fn.printer) (outlet g.W.Write.contents l.printer) (notes_of_plan l.page l.fn.place l.stayings) (flat_map (λ (staying : Staying). flat_map mark_text (note_marks l.page l.fn.place staying)) (drop l.staying-index l.stayings))
