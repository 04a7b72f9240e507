use Rattle.ele_outlook.proofs.telling.put_told.Goals as goal

pub returns-in-Table : goal.returns-in-Table
returns-in-Table g c = rw c.in-Table.is c.put_freed_table.ensures

pub returns-in-Drawing : goal.returns-in-Drawing
returns-in-Drawing g c = rw c.in-Drawing.is (rw (c.as_slice.ensures.value, c.as_slice-counts.ensures.value) at c.put_drawing.ensures)

pub returns-in-BytesDrawing : goal.returns-in-BytesDrawing
returns-in-BytesDrawing g c = rw c.in-BytesDrawing.is (rw (c.as_slice-in-BytesDrawing.ensures.value, c.as_slice-in-BytesDrawing-2.ensures.value) at c.put_bytes_drawing.ensures)

pub returns-in-AgainstDrawing : goal.returns-in-AgainstDrawing
returns-in-AgainstDrawing g c = rw c.in-AgainstDrawing.is (rw (c.as_slice-judged.ensures.value, c.as_slice-in-AgainstDrawing.ensures.value) at c.put_against_drawing.ensures)
