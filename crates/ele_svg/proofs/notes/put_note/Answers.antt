use Rattle.ele_svg.proofs.notes.put_note.Goals as goal

pub returns : goal.returns
returns g c = rw (c.note_at.ensures, c.x-x.ensures.value, c.note_y-y.ensures, c.stay_words-words.ensures) at c.put_marks.ensures
