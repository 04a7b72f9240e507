use Rattle.ele_output.proofs.Known.{puts_then}
use Rattle.ele_svg.proofs.compared.put_compared_heading.Goals as goal

pub returns : goal.returns
returns g c =
    puts_then c.put_with_number.ensures (
    puts_then c.put.ensures (
    puts_then c.put_escaped.ensures (
    puts_then c.put-2.ensures (
    puts_then c.put_with_number-2.ensures c.put-3.ensures))))
