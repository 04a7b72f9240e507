use Rattle.ele_output.proofs.Known.{puts_then}
use Rattle.ele_suggest.proofs.table.put_suggestion_csv.Goals as goal

pub returns : goal.returns
returns g c = puts_then c.put_csv_heading.ensures c.put_rows.ensures
