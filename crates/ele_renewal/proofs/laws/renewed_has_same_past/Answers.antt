use Rattle.ele_renewal.proofs.Past.{same_past, same_version}
use Rattle.ele_renewal.proofs.laws.renewed_has_same_past.Goals as goal

pub returns-clause-past : goal.returns-clause-past
returns-clause-past c = same_past

pub returns-clause-version : goal.returns-clause-version
returns-clause-version c = same_version
