use Rattle.ele_output.proofs.Known.{puts_then}
use Rattle.ele_forecast_text.proofs.policy.put_pair.Goals as goal

pub returns : goal.returns
returns g c =
    puts_then c.put.ensures (puts_then c.put_number.ensures (
    puts_then c.put-2.ensures (c.put_number-2.ensures)))
