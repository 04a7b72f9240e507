use Rattle.std.proofs.Common.{rules}
use Rattle.ele_output.specs.Prints.{outlet}
use Rattle.ele_output.proofs.Known.{handed_over}
use Rattle.ele_printer.proofs.text.write_reply.Goals as goal

pub returns : goal.returns
returns g c =
    let put = c.put_reply.ensures in
    record {
      text = put.0;
      is = put.1;
      written = handed_over (outlet g.W.Write.contents c.new-printer.result) _ (outlet g.W.Write.contents c.hand_over.new.self) c.hand_over.result c.new-printer.ensures.held put.2 c.hand_over.ensures c.new-printer.ensures.known (search rules);
    }
