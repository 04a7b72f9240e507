use Rattle.ele_output.proofs.Known.{puts_then}
use Rattle.ele_forecast_forms.proofs.csv.put_forecast.Goals as goal

pub returns : goal.returns
returns g c = puts_then c.put_moment.ensures (puts_then c.put_byte.ensures (c.put_reason.ensures))
