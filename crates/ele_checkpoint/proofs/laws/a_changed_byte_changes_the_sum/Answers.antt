use Rattle.ele_checkpoint.proofs.Noticed.{one_byte}
use Rattle.ele_checkpoint.proofs.laws.a_changed_byte_changes_the_sum.Goals as goal

pub returns : goal.returns
returns c = one_byte
