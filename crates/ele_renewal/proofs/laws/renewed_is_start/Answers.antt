use Rattle.ele_renewal.proofs.Start.{renewed_is_start}
use Rattle.ele_renewal.proofs.laws.renewed_is_start.Goals as goal

pub returns : goal.returns
returns c = renewed_is_start
