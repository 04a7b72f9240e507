use Rattle.ele_output.proofs.Known.{puts_then}
use Rattle.ele_suggest.proofs.table.put_suggestion.Goals as goal

pub returns : goal.returns
returns g c = puts_then c.put_table_heading.ensures (puts_then c.put_rows.ensures c.put_best_line.ensures)
