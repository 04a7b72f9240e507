use Rattle.ele_output.proofs.Known.{puts_then}
use Rattle.ele_forecast_forms.proofs.json.put_version.Goals as goal

pub returns : goal.returns
returns g c =
    let fields = puts_then (rw c.number.view_is at c.put_with_number.ensures) (puts_then c.put_label.ensures c.put_size.ensures) in
    let life = puts_then c.put.ensures (puts_then c.put_moment.ensures (puts_then c.put-2.ensures c.put_moment_or_null.ensures)) in
    puts_then fields (puts_then life (puts_then c.put-3.ensures (puts_then c.put_fates.ensures c.put-4.ensures)))
