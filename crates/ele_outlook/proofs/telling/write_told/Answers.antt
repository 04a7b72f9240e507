use Rattle.std.proofs.Common.{rules}
use Rattle.ele_output.specs.Prints.{outlet}
use Rattle.ele_output.proofs.Known.{handed_over}
use Rattle.ele_outlook.proofs.Known.{checked}
use Rattle.ele_outlook.proofs.telling.write_told.Goals as goal

pub returns : goal.returns
returns g c =
    let made = c.new-printer.ensures in
    handed_over (outlet g.W.Write.contents c.new-printer.result) _ (outlet g.W.Write.contents c.flush.new.self) c.check.result made.held c.put_told.ensures (checked c.check.result c.flush.ensures c.check.ensures) made.known (search rules)
