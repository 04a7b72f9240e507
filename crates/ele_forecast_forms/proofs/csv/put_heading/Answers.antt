use Rattle.ele_output.proofs.Known.{puts_then}
use Rattle.ele_forecast_forms.proofs.csv.put_heading.Goals as goal

pub returns : goal.returns
returns g c = puts_then c.put_heading_fields.ensures c.put.ensures
