use Rattle.ele_output.proofs.Known.{puts_then}
use Rattle.ele_printer.proofs.reply.put_in_front.Goals as goal

pub returns : goal.returns
returns g c = puts_then c.put_number.ensures c.put.ensures
