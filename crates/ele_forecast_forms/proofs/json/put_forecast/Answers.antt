use Rattle.ele_output.proofs.Known.{puts_then}
use Rattle.ele_forecast_forms.proofs.json.put_forecast.Goals as goal

pub returns : goal.returns
returns g c = puts_then c.put.ensures (puts_then c.put_moment_or_null.ensures (puts_then c.put-2.ensures (puts_then c.put_reason.ensures (c.put-3.ensures))))
