use Rattle.ele_printer.proofs.Lines.{usages_are}
use Rattle.ele_output.proofs.Known.{puts_as, puts_then}
use Rattle.std.proofs.Common.{sym}
use Rattle.ele_printer.proofs.reply.put_usages.Goals as goal

pub returns : goal.returns
returns g c =
    puts_then c.put_line_of.ensures (puts_as (sym (usages_are c.args.usages.now _ c.told-usages)) (puts_then c.put_usage.ensures (
    puts_then c.put_usage-2.ensures (puts_then c.put_usage-3.ensures (c.put_usage-4.ensures)))))
