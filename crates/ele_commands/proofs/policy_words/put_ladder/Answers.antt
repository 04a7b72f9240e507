use Rattle.ele_output.proofs.Known.{puts_then}
use Rattle.ele_commands.proofs.policy_words.put_ladder.Goals as goal

pub returns : goal.returns
returns g c = puts_then c.put.ensures (rw c.pairs.ensures.value at c.put_pieces.ensures)
