use Rattle.ele_output.proofs.Known.{puts_then}
use Rattle.ele_forecast_forms.proofs.json.put_staying.Goals as goal

pub returns : goal.returns
returns g c =
    let numbers = c.as_slice-numbers.ensures.value in
    puts_then c.put.ensures (puts_then c.put_moment.ensures (puts_then (rw numbers at c.put_with_number.ensures) (puts_then (rw numbers at c.put_total.ensures) (
    puts_then c.put-2.ensures (puts_then (rw numbers at c.put_numbers.ensures) c.put-3.ensures)))))
