use Rattle.ele_checkpoint.proofs.Checkpoints.{one_front}
use Rattle.ele_checkpoint.proofs.laws.checkpoints_end.Goals as goal

pub returns : goal.returns
returns c = one_front
