use Rattle.ele_evidence.proofs.RowByRow.{both}
use Rattle.ele_evidence.proofs.checking.behind_both.Goals as goal

pub returns-in-Some : goal.returns-in-Some
returns-in-Some c = both _ _ _ _ c.behind-in-Some.result c.in-Some.ensures c.behind-in-Some.ensures
