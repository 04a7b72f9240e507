use Rattle.ele_renewal.proofs.Scans.{same_scan}
use Rattle.ele_renewal.proofs.laws.renewed_has_same_scan.Goals as goal

pub returns : goal.returns
returns c = same_scan
