use Rattle.std.proofs.Common.{rules}
use Rattle.ele_output.proofs.Basics.{refl}
use Rattle.ele_output.specs.Prints.{outlet}
use Rattle.ele_output.proofs.Known.{puts_held}
use Rattle.ele_output.proofs.printer.Printer.put.Goals as goal

pub returns-else-is_err : goal.returns-else-is_err
returns-else-is_err g c = puts_held (outlet g.W.Write.contents c.args.self.now) _ c.args.bytes.now refl refl refl (search rules)
