use Rattle.ele_svg_marks.proofs.mark.put_mark.Goals as goal

pub returns-in-Rect : goal.returns-in-Rect
returns-in-Rect g c = rw c.in-Rect.is c.put_rect.ensures

pub returns-in-Text : goal.returns-in-Text
returns-in-Text g c = rw c.in-Text.is c.put_text.ensures
