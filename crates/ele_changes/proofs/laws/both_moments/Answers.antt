use Rattle.ele_changes.proofs.BothMoments.{both_moments}
use Rattle.ele_changes.proofs.laws.both_moments.Goals as goal

pub returns : goal.returns
returns c = both_moments
