use Rattle.ele_output.proofs.Basics.{refl}
use Rattle.ele_output.specs.Prints.{outlet}
use Rattle.ele_output.proofs.Known.{outputs_held, outputs_then, puts_direct, puts_over_room}
use Rattle.ele_output.proofs.printer.Printer.put_behind.Goals as goal

pub returns-in-Err : goal.returns-in-Err
returns-in-Err g c =
    puts_over_room c.requires (outputs_then c.send_held.ensures.sent (puts_direct (outlet g.W.Write.contents c.send_held.new.self) _ c.args.bytes.now refl c.send_held.ensures.none c.send-self.ensures (rw c.in-Err.ensures.err c.send_held.ensures.none)))

pub returns-in-Ok : goal.returns-in-Ok
returns-in-Ok g c =
    puts_over_room c.requires (outputs_then c.send_held.ensures.sent (outputs_held (outlet g.W.Write.contents c.send_held.new.self) _ c.args.bytes.now refl refl refl c.in-Ok.ensures.ok))
