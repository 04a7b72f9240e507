use Rattle.ele_renewal.proofs.Returning.{same_restorable}
use Rattle.ele_renewal.proofs.laws.renewed_has_same_restorable.Goals as goal

pub returns : goal.returns
returns c = same_restorable
