use Rattle.std.proofs.Common.{rules}
use Rattle.ele_output.proofs.Basics.{[], ◌∷◌, refl}
use Rattle.ele_output.specs.Prints.{outlet}
use Rattle.ele_output.proofs.Known.{puts_held}
use Rattle.ele_output.proofs.printer.Printer.put_byte.Goals as goal

pub returns-else-is_full : goal.returns-else-is_full
returns-else-is_full g c = puts_held (outlet g.W.Write.contents c.args.self.now) _ (c.args.byte ∷ []) refl refl refl (search rules)
