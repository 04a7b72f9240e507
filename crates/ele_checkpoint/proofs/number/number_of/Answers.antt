use Rattle.ele_checkpoint.specs.PartsRead.{number_at}
use Rattle.ele_checkpoint.proofs.number.number_of.Goals as goal

pub returns : goal.returns
unfolding number_at
returns c = c.digits_of.ensures
