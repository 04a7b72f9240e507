use Rattle.ele_printer.proofs.reply.put_pass.Goals as goal

pub returns-in-Finished : goal.returns-in-Finished
returns-in-Finished g c = rw c.in-Finished.is c.put_line_of.ensures

pub returns-in-Budget : goal.returns-in-Budget
returns-in-Budget g c = rw c.in-Budget.is c.put_line_of-in-Budget.ensures
