use Rattle.std.proofs.Common.{refl}
use Rattle.ele_checkpoint.specs.Sum.{shifted, sum, times}
use Rattle.ele_checkpoint.proofs.laws.sum_is_castagnoli.Goals as goal

pub returns : goal.returns
unfolding sum times shifted
returns c = refl
