use Rattle.ele_printer.proofs.reply.put_closed.Goals as goal

pub returns-in-Some : goal.returns-in-Some
returns-in-Some g c = rw c.in-Some.is (rw c.number.view_is at c.put_line_of.ensures)
