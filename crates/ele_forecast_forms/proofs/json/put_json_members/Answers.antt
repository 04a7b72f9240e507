use Rattle.ele_output.proofs.Known.{puts_then}
use Rattle.ele_forecast_forms.proofs.json.put_json_members.Goals as goal

pub returns : goal.returns
returns g c = puts_then c.put.ensures (puts_then c.put_plans.ensures (puts_then c.put-2.ensures (puts_then (rw c.versions_of.ensures at c.put_versions.ensures) (c.put-3.ensures))))
