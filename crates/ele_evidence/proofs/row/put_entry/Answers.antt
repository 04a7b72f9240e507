use Rattle.ele_evidence.proofs.Basics.{refl, sym, ◌++◌}
use Rattle.ele_output.proofs.Known.{puts_as, puts_then}
use Rattle.ele_printer.proofs.Lines.{entry_parts}
use Rattle.ele_printer.specs.HistoryText.{entry_line}
use Rattle.ele_evidence.proofs.row.put_entry.Goals as goal

pub returns : goal.returns
returns g c =
    (entry_line c.args.entry.now ++ c.put_answer.ensures.0, (c.put_answer.ensures.0, c.put_answer.ensures.1, refl), puts_then (puts_as (sym (entry_parts c.args.entry.now)) (puts_then c.put.ensures c.put_event_line.ensures.text)) c.put_answer.ensures.2)
