use Rattle.ele_printer.proofs.Lines.{group_parts}
use Rattle.ele_output.proofs.Known.{puts_as, puts_then}
use Rattle.std.proofs.Common.{sym}
use Rattle.ele_printer.proofs.group_rows.GroupRowRow.put_row.Goals as goal

pub returns : goal.returns
returns g c =
    puts_as (sym (group_parts _)) (puts_then (rw c.bytes.ensures.value at c.put_words.ensures) (
    puts_then (rw c.as_slice.ensures at c.put_pieces_or_dash.ensures) (puts_then c.put.ensures (
    puts_then (rw c.as_slice-2.ensures at c.put_pieces_or_dash-2.ensures) (c.put-2.ensures)))))
