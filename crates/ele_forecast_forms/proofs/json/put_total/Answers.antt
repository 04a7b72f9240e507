use Rattle.ele_output.proofs.Known.{puts_then}
use Rattle.ele_forecast_forms.proofs.json.put_total.Goals as goal

pub returns-then-details : goal.returns-then-details
returns-then-details g c =
    rw c.if-details.true (puts_then c.put.ensures (rw (c.as_bytes.ensures.value, c.format.ensures.text, c.bytes_of-bytes.ensures, c.as_slice.ensures.value) at c.put-then-details.ensures))
