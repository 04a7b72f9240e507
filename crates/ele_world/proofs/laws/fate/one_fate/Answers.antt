use Rattle.ele_world.proofs.Fates.{one_fate}
use Rattle.ele_world.proofs.laws.fate.one_fate.Goals as goal

pub returns : goal.returns
returns c = λ w file number one other a b. one_fate w file number one other a b
