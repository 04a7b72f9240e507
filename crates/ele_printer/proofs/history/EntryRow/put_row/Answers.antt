use Rattle.ele_printer.proofs.Lines.{entry_parts}
use Rattle.ele_output.proofs.Known.{puts_as, puts_then}
use Rattle.std.proofs.Common.{sym}
use Rattle.ele_printer.proofs.history.EntryRow.put_row.Goals as goal

pub returns : goal.returns
returns g c = puts_as (sym (entry_parts c.args.self.now)) (puts_then c.put.ensures c.put_event_line.ensures.text)
