use Rattle.ele_printer.proofs.Lines.{why_parts}
use Rattle.ele_output.proofs.Known.{puts_as, puts_then}
use Rattle.std.proofs.Common.{sym}
use Rattle.ele_printer.proofs.why.put_why.Goals as goal

pub returns-in-Ok : goal.returns-in-Ok
returns-in-Ok g c = rw c.in-Ok.is (puts_as (sym (why_parts _)) (puts_then c.put.ensures c.put_fate.ensures))
