use Rattle.ele_output.proofs.Known.{puts_then}
use Rattle.ele_forecast_forms.proofs.compared.put_version.Goals as goal

pub returns : goal.returns
returns g c = puts_then c.put_columns.ensures c.put.ensures
