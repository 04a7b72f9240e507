use Rattle.ele_output.proofs.Known.{puts_then}
use Rattle.ele_forecast_forms.proofs.json_parts.put_control.Goals as goal

pub returns : goal.returns
returns g c = puts_then c.put.ensures (rw (c.digit_of.ensures, c.digit_of-2.ensures) at c.put-2.ensures)
