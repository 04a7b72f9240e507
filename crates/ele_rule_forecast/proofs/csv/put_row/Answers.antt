use Rattle.ele_output.proofs.Known.{puts_then}
use Rattle.ele_rule_forecast.proofs.csv.put_row.Goals as goal

pub returns : goal.returns
returns g c = puts_then c.put_fields.ensures c.put_kept_fields.ensures
