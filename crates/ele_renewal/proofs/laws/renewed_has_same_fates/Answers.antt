use Rattle.ele_renewal.proofs.Fates.{same_fates}
use Rattle.ele_renewal.proofs.laws.renewed_has_same_fates.Goals as goal

pub returns : goal.returns
returns c = same_fates
