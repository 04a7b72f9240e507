use Rattle.ele_output.proofs.Known.{puts_then}
use Rattle.ele_forecast_forms.proofs.csv.put_policy_headings.Goals as goal

pub returns : goal.returns
returns g c = puts_then c.put.ensures (puts_then c.put-2.ensures (puts_then c.put-3.ensures (puts_then c.put-4.ensures c.put-5.ensures)))
