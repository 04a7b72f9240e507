use Rattle.ele_output.proofs.Known.{puts_then}
use Rattle.ele_forecast_forms.proofs.json.put_json.Goals as goal

pub returns : goal.returns
returns g c = puts_then c.put.ensures c.put_json_members.ensures
