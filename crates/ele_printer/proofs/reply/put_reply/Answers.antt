use Rattle.ele_printer.proofs.Basics.{refl}
use Rattle.ele_printer.proofs.reply.put_reply.Goals as goal

pub returns-in-Err : goal.returns-in-Err
returns-in-Err g c = rw c.in-Err.is (_, refl, c.put_stop.ensures)
