use Rattle.ele_renewal.proofs.Marked.{same_cover}
use Rattle.ele_renewal.proofs.laws.renewed_has_same_cover.Goals as goal

pub returns : goal.returns
returns c = same_cover
