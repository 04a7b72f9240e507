use Rattle.ele_renewal.proofs.Blocks.{same_usage}
use Rattle.ele_renewal.proofs.laws.renewed_has_same_usage.Goals as goal

pub returns : goal.returns
returns c = same_usage
