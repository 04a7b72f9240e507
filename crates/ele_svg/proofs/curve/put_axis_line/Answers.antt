use Rattle.ele_svg.proofs.curve.put_axis_line.Goals as goal

pub returns : goal.returns
returns g c = rw (c.curve_y-y.ensures.value, c.amount_words-words.ensures) at c.put_marks.ensures
