use Rattle.std.proofs.Common.{rules}
use Rattle.ele_dialog.proofs.Typed.{ended_at}
use Rattle.ele_output.specs.Prints.{outlet}
use Rattle.ele_dialog.proofs.dialog.run_printed.Goals as goal

pub returns : goal.returns
returns g c =
    ended_at _ _ _ (outlet g.W.Write.contents c.new-printer.result) (outlet g.W.Write.contents c.run_lines.new.printer) _ _ c.run_lines.result c.run_lines.ensures c.new-printer.ensures.known (λ same. search rules)
