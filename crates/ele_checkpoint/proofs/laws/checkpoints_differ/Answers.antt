use Rattle.ele_checkpoint.proofs.Checkpoints.{one_world}
use Rattle.ele_checkpoint.proofs.laws.checkpoints_differ.Goals as goal

pub returns : goal.returns
returns c = one_world
