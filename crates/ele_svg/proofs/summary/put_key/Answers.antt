use Rattle.ele_output.proofs.Known.{puts_then}
use Rattle.ele_svg.proofs.summary.put_key.Goals as goal

pub returns : goal.returns
returns g c =
    puts_then (rw (c.curve_stroke-stroke.ensures, c.key_y-y.ensures.value) at c.put_marks.ensures) (
    puts_then (rw c.key_y-y.ensures.value at c.put_with_number.ensures) (
    puts_then c.put.ensures (
    puts_then c.put_name.ensures c.put-2.ensures)))
