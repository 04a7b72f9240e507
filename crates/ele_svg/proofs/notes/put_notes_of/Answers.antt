use Rattle.std.proofs.Common.{arith}
use Rattle.std.specs.List.{flat_map}
use Rattle.ele_forecast_text.specs.declared.staying.Staying.{Staying}
use Rattle.ele_svg.specs.Notes.{note_marks}
use Rattle.ele_svg_marks.specs.Mark.{mark_text}
use Rattle.ele_output.proofs.Lists.{list_done, list_more}
use Rattle.ele_svg.proofs.notes.put_notes_of.Goals as goal

pub loop-staying-preserved : goal.loop-staying-preserved
loop-staying-preserved g c =
    list_more (λ (staying : Staying). flat_map mark_text (note_marks c.args.page.now c.args.place staying)) c.args.stayings.now c.loop-staying.staying-index c.staying-item.result (omega arith) c.staying-item.is c.loop-staying.invariant c.put_note.ensures

pub returns : goal.returns
returns g c =
    list_done (λ (staying : Staying). flat_map mark_text (note_marks c.args.page.now c.args.place staying)) c.args.stayings.now c.loop-staying.staying-index c.loop-staying-test.false c.loop-staying.invariant
