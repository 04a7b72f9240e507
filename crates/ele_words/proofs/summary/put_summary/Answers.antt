use Rattle.ele_output.proofs.Known.{puts_then}
use Rattle.ele_words.proofs.summary.put_summary.Goals as goal

pub returns : goal.returns
returns g c =
    puts_then c.put_with_number.ensures (puts_then c.put_with_number-2.ensures (puts_then c.put_with_number-3.ensures (puts_then c.put_with_number-4.ensures
    (puts_then c.put.ensures (puts_then c.put_first.ensures c.put-2.ensures)))))
