use Rattle.ele_output.proofs.Known.{puts_then}
use Rattle.ele_words.proofs.summary.put_first.Goals as goal

pub returns-in-Bad : goal.returns-in-Bad
returns-in-Bad g c = rw c.in-Bad.is c.put_with_number-in-Bad.ensures

pub returns-in-BadFor : goal.returns-in-BadFor
returns-in-BadFor g c = rw c.in-BadFor.is (puts_then c.put_with_number-in-BadFor.ensures (puts_then c.put.ensures c.put_reason.ensures))
